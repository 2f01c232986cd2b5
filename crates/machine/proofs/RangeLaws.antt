-- The state check as facts, both ways.
use Prim.Native.Nat.{ℕ, ◌≤◌, ◌<◌}
use mathlib.Core.Path.{◌≡◌, ap, sym, ◌∙◌, refl}
use mathlib.Core.Bool.{Bool, true, false, cond, not, ◌||◌, true≢false}
use mathlib.Core.List.{List}
use lib.Dec.{leb, ltb}
use lib.ListN.{get_or}
use borrow.Author.Tests.{leb-true, le-leb, lt-ltb}
use Rattle.output.specs.Read.{in_time}
use Rattle.machine.specs.declared.Client.{Client}
use Rattle.machine.specs.declared.State.{State}
use Rattle.machine.specs.Places.{all_below}
use Rattle.machine.specs.Sheet.{last_client, sensor_of, sensors_ok, titles_ok}
use Rattle.machine.specs.State.{no_client, client_of, connected, stored_of, present}
use Rattle.machine.specs.Range.{sample_ok, client_ok, client_ok_at, stored_ok, stored_none, stored_ok_at, pair_ok_at, clients_within, profile_ok, is_blank, in_range, is_none}
use Rattle.machine.proofs.TestLaws.{and_true, and_in, or_in, cond_true}
use Rattle.machine.proofs.PlacesLaws.{below_at, below_of}
use Rattle.machine.specs.declared.Strategy.{Strategy}
use Rattle.machine.specs.declared.Strategy.TheVariants.{None, Auto, Period, Event, Differential, EventRate, DifferentialRate}
use Rattle.machine.proofs.SheetLaws.{Sensors, sensors_out}

pub record InRange (s : State) : Type 0 where
  pub titles_in : (titles_ok s.sheet || is_blank s) ≡ true
  pub sensors_in : sensors_ok s.sheet ≡ true
  pub clock_in_lem : s.clock ≤ 9999999999999
  pub level_in : s.level ≤ 7
  pub stored_in : (j : ℕ) → j < 32 → stored_ok_at s.sheet s.clock s.readings j ≡ true
  pub client_in : (c : ℕ) → c < 8 → client_ok (client_of s c) ≡ true
  pub pair_in : (p : ℕ) → p < 256 → pair_ok_at s p ≡ true
  pub profile_in : s.sheet.profile ≤ 1
  pub last_in : (c : ℕ) → c < 8 → connected s c ≡ true → c ≤ last_client s.sheet.profile

-- no client above the highest is connected
within_at : (last : ℕ) (ks : List Client) (c : ℕ) → clients_within last ks ≡ true → c < 8 → (get_or ks c no_client).connected ≡ true → c ≤ last
unfolding clients_within
within_at last ks c h k there = leb-true c last (go (leb c last) (get_or ks c no_client).connected (below_at (λ a. leb a last || not (get_or ks a no_client).connected) 8 c h k) there)
  where
    go : (b there : Bool) → (b || not there) ≡ true → there ≡ true → b ≡ true
    go true there h e = refl
    go false true h e = h
    go false false h e = e

within_of : (last : ℕ) (ks : List Client) → ((c : ℕ) → c < 8 → (get_or ks c no_client).connected ≡ true → c ≤ last) → clients_within last ks ≡ true
unfolding clients_within
within_of last ks h = below_of _ 8 (λ c k. go c (get_or ks c no_client).connected (h c k))
  where
    go : (c : ℕ) (there : Bool) → (there ≡ true → c ≤ last) → (leb c last || not there) ≡ true
    go c true h = ap (λ b. b || false) (le-leb c last (h refl))
    go c false h = or_in (leb c last) true refl

pub range_out : (s : State) → in_range s ≡ true → InRange s
unfolding in_range profile_ok
range_out s h =
    let a = and_true (titles_ok s.sheet || is_blank s) _ h in
    let p = and_true (profile_ok s) _ a.1 in
    let q = and_true (leb s.sheet.profile 1) _ p.0 in
    let b = and_true (sensors_ok s.sheet) _ p.1 in
    let c = and_true (in_time s.clock) _ b.1 in
    let d = and_true (leb s.level 7) _ c.1 in
    let e = and_true (all_below (stored_ok_at s.sheet s.clock s.readings) 32) _ d.1 in
    let f = and_true (all_below (client_ok_at s.clients) 8) _ e.1 in
    record {
      titles_in = a.0;
      sensors_in = b.0;
      clock_in_lem = leb-true s.clock 9999999999999 c.0;
      level_in = leb-true s.level 7 d.0;
      stored_in = λ j k. below_at (stored_ok_at s.sheet s.clock s.readings) 32 j e.0 k;
      client_in = λ c k. below_at (client_ok_at s.clients) 8 c f.0 k;
      pair_in = λ p k. below_at (pair_ok_at s) 256 p f.1 k;
      profile_in = leb-true s.sheet.profile 1 q.0;
      last_in = λ c k. within_at (last_client s.sheet.profile) s.clients c q.1 k;
    }

pub range_of : (s : State) → InRange s → in_range s ≡ true
unfolding in_range profile_ok
range_of s r =
    and_in (titles_ok s.sheet || is_blank s) _ r.titles_in
    (and_in (profile_ok s) _ (and_in (leb s.sheet.profile 1) _ (le-leb s.sheet.profile 1 r.profile_in) (within_of (last_client s.sheet.profile) s.clients r.last_in))
    (and_in (sensors_ok s.sheet) _ r.sensors_in
    (and_in (in_time s.clock) _ (le-leb s.clock 9999999999999 r.clock_in_lem)
    (and_in (leb s.level 7) _ (le-leb s.level 7 r.level_in)
    (and_in (all_below (stored_ok_at s.sheet s.clock s.readings) 32) _ (below_of (stored_ok_at s.sheet s.clock s.readings) 32 r.stored_in)
    (and_in (all_below (client_ok_at s.clients) 8) (all_below (pair_ok_at s) 256) (below_of (client_ok_at s.clients) 8 r.client_in) (below_of (pair_ok_at s) 256 r.pair_in)))))))

-- a sensor's reading is one that the sensor can have, at a time that is not after the clock
pub stored_is : (s : State) → InRange s → (j : ℕ) → j < s.sheet.count → j < 32
    → (sample_ok (sensor_of s.sheet j) (present s j) ≡ true) × ((stored_of s j).time ≤ s.clock)
unfolding stored_ok_at stored_ok
stored_is s r j h k = let q = and_true (sample_ok (sensor_of s.sheet j) (present s j)) (leb (stored_of s j).time s.clock) (there (r.stored_in j k)) in
    (q.0, leb-true (stored_of s j).time s.clock q.1)
  where
    there : cond (ltb j s.sheet.count) (stored_ok s.clock (sensor_of s.sheet j) (stored_of s j)) (stored_none (stored_of s j)) ≡ true
        → stored_ok s.clock (sensor_of s.sheet j) (stored_of s j) ≡ true
    there t = sym (cond_true (ltb j s.sheet.count) (stored_ok s.clock (sensor_of s.sheet j) (stored_of s j)) (stored_none (stored_of s j)) (lt-ltb j s.sheet.count h)) ∙ t

pub none_is : (st : Strategy) → is_none st ≡ true → st ≡ None
unfolding is_none
none_is None e = refl
none_is Auto e = absurd (true≢false (sym e))
none_is (Period p) e = absurd (true≢false (sym e))
none_is Event e = absurd (true≢false (sym e))
none_is (Differential d) e = absurd (true≢false (sym e))
none_is (EventRate a b) e = absurd (true≢false (sym e))
none_is (DifferentialRate d a b) e = absurd (true≢false (sym e))

pub sensors_of : (s : State) → InRange s → Sensors s.sheet
sensors_of s r = sensors_out s.sheet r.sensors_in
