-- A state in range is in range after each way of writing it anew.
use Prim.Native.Nat.{ℕ, ◌/◌, ◌%◌, ◌≤◌, ◌<◌}
use native.Mathlib.Omega.{arith}
use mathlib.Core.Path.{◌≡◌, refl, ap, sym, ◌∙◌, subst}
use mathlib.Core.Bool.{Bool, true, false, cond, not, ◌&&◌, ◌||◌, true≢false}
use mathlib.Core.List.{List}
use lib.Dec.{eqb, leb, ltb}
use lib.ListN.{get_or}
use borrow.Author.Tests.{leb-true, le-leb, ltb-true, lt-ltb, eqb-true}
use Rattle.machine.specs.declared.Sensor.{Sensor}
use Rattle.machine.specs.declared.Strategy.{Strategy}
use Rattle.machine.specs.declared.Subscription.{Subscription}
use Rattle.machine.specs.declared.Stored.{Stored}
use Rattle.machine.specs.declared.Client.{Client}
use Rattle.machine.specs.declared.State.{State}
use Rattle.machine.specs.declared.Cause.{Cause}
use Rattle.machine.specs.Places.{tabulate, has}
use Rattle.machine.specs.Sheet.{last_client, sensor_of, titles_ok}
use Rattle.machine.specs.State.{no_subscription, client_of, connected, stored_of, present, pair_at, with_clock, with_level, with_pairs, with_client, emptied, with_reading}
use Rattle.machine.specs.Range.{sample_ok, sample_none, stored_ok, stored_none, client_ok, strategy_ok, is_none, pair_none, stored_ok_at, pair_ok_at, is_blank}
use Rattle.machine.specs.Report.{due_at, reported, pair_after}
use Rattle.machine.specs.Requests.{sampled, sampled_pairs}
use Rattle.machine.proofs.TestLaws.{and_true, and_in, cond_true, cond_either}
use Rattle.machine.proofs.PlacesLaws.{get_or-tabulate}
use Rattle.machine.proofs.StateLaws.{client_after, stored_after, none_connected}
use Rattle.machine.proofs.RangeLaws.{InRange, stored_is}
use Rattle.machine.proofs.PairRange.{pair_fits, pair_same, Reported, pair_of_report, pair_of_none, pair_cases, pair_of_no_subscription, pair_later, pair_suits}
use Rattle.machine.proofs.OpenedRange.{none_connected_in, no_pair_in}

-- a reading at a later clock
stored_later : (clock t : ℕ) (n : Sensor) (x : Stored) → clock ≤ t → stored_ok clock n x ≡ true → stored_ok t n x ≡ true
unfolding stored_ok
stored_later clock t n x l h = let a = and_true (sample_ok n x.sample) (leb x.time clock) h in
    and_in (sample_ok n x.sample) (leb x.time t) a.0 (le-leb x.time t (omega (arith, leb-true x.time clock a.1)))

-- "setting none keeps it", where there is no report
none-set : (st : Strategy) (x : Subscription) → is_none st ≡ true → pair_none x ≡ true
    → pair_none (record { strategy = st; reported = x.reported; sample = x.sample; time = x.time }) ≡ true
unfolding pair_none
none-set st x h k =
    let a = and_true (not x.reported) (is_none x.strategy && (sample_none x.sample && eqb x.time 0)) k in
    let b = and_true (is_none x.strategy) (sample_none x.sample && eqb x.time 0) a.1 in
    and_in (not x.reported) (is_none st && (sample_none x.sample && eqb x.time 0)) a.0
    (and_in (is_none st) (sample_none x.sample && eqb x.time 0) h b.1)

module _ (s : State) (r : InRange s) (titled : titles_ok s.sheet ≡ true) where
  pub clock_kept : (t : ℕ) → s.clock ≤ t → t ≤ 9999999999999 → InRange (with_clock s t)
  unfolding stored_ok_at pair_ok_at
  clock_kept t l h = record {
    titles_in = ap (λ b. b || is_blank (with_clock s t)) titled;
    sensors_in = r.sensors_in;
    clock_in_lem = h;
    level_in = r.level_in;
    stored_in = λ j k. later j (ltb j s.sheet.count) (r.stored_in j k);
    client_in = r.client_in;
    pair_in = λ p k. pair_later s.sheet s.clock t (connected s (p / 32)) p (pair_at s p) l (r.pair_in p k);
    profile_in = r.profile_in;
    last_in = r.last_in;
  }
    where
      later : (j : ℕ) (b : Bool) → cond b (stored_ok s.clock (sensor_of s.sheet j) (stored_of s j)) (stored_none (stored_of s j)) ≡ true
          → cond b (stored_ok t (sensor_of s.sheet j) (stored_of s j)) (stored_none (stored_of s j)) ≡ true
      later j true q = stored_later s.clock t (sensor_of s.sheet j) (stored_of s j) l q
      later j false q = q

  pub level_kept : (l : ℕ) → l ≤ 7 → InRange (with_level s l)
  unfolding stored_ok_at pair_ok_at
  level_kept l h = record {
    titles_in = ap (λ b. b || is_blank (with_level s l)) titled;
    sensors_in = r.sensors_in;
    clock_in_lem = r.clock_in_lem;
    level_in = h;
    stored_in = r.stored_in;
    client_in = r.client_in;
    pair_in = r.pair_in;
    profile_in = r.profile_in;
    last_in = r.last_in;
  }

  pub emptied_kept : (halted : Bool) (l : ℕ) → l ≤ 7 → InRange (emptied s halted l)
  unfolding stored_ok_at pair_ok_at
  emptied_kept halted l h = record {
    titles_in = ap (λ b. b || is_blank (emptied s halted l)) titled;
    sensors_in = r.sensors_in;
    clock_in_lem = r.clock_in_lem;
    level_in = h;
    stored_in = r.stored_in;
    client_in = λ c k. none_connected_in c;
    pair_in = λ p k. no_pair_in s.sheet s.clock (connected (emptied s halted l) (p / 32)) p;
    profile_in = r.profile_in;
    last_in = λ c k there. absurd (true≢false (sym there ∙ none_connected c));
  }

  -- sensor j is given the reading x
  pub reading_kept : (j : ℕ) (x : Stored) → j < s.sheet.count → sample_ok (sensor_of s.sheet j) x.sample ≡ true → x.time ≤ s.clock → InRange (with_reading s j x)
  unfolding stored_ok_at stored_ok pair_ok_at with_reading
  reading_kept j x h f t = record {
    titles_in = ap (λ b. b || is_blank (with_reading s j x)) titled;
    sensors_in = r.sensors_in;
    clock_in_lem = r.clock_in_lem;
    level_in = r.level_in;
    stored_in = λ i k. subst (λ (y : Stored). At i y) (sym (stored_after s j i x k)) (go i (eqb i j) refl (r.stored_in i k));
    client_in = r.client_in;
    pair_in = r.pair_in;
    profile_in = r.profile_in;
    last_in = r.last_in;
  }
    where
      At : ℕ → Stored → Type 0
      At i y = cond (ltb i s.sheet.count) (stored_ok s.clock (sensor_of s.sheet i) y) (stored_none y) ≡ true

      given : At j x
      given = cond_true (ltb j s.sheet.count) _ _ (lt-ltb j s.sheet.count h) ∙ and_in (sample_ok (sensor_of s.sheet j) x.sample) (leb x.time s.clock) f (le-leb x.time s.clock t)

      go : (i : ℕ) (b : Bool) → eqb i j ≡ b → At i (stored_of s i) → At i (cond b x (stored_of s i))
      go i true e q = subst (λ i. At i x) (sym (eqb-true i j e)) given
      go i false e q = q

  -- client c is now k
  pub client_kept : (c : ℕ) (k : Client) → c ≤ last_client s.sheet.profile → client_ok k ≡ true → InRange (with_client s c k)
  unfolding stored_ok_at pair_ok_at with_client
  client_kept c k u f = record {
    titles_in = ap (λ b. b || is_blank (with_client s c k)) titled;
    sensors_in = r.sensors_in;
    clock_in_lem = r.clock_in_lem;
    level_in = r.level_in;
    stored_in = r.stored_in;
    client_in = λ a h. rw (client_after s c a k h) (cond_either (λ (y : Client). client_ok y ≡ true) (eqb a c) k (client_of s a) f (r.client_in a h));
    pair_in = λ p h. pair_same s.sheet s.clock (connected (with_client s c k) (p / 32)) (cond (eqb (p / 32) c) k (client_of s (p / 32))).connected p (pair_at (with_client s c k) p) _
        (ap (λ (y : Client). y.connected) (client_after s c (p / 32) k (omega arith))) (get_or-tabulate _ 256 p no_subscription h)
        (pair (eqb (p / 32) c) p (r.pair_in p h));
    profile_in = r.profile_in;
    last_in = λ a h there. last a h (eqb a c) refl (sym (ap (λ (y : Client). y.connected) (client_after s c a k h)) ∙ there);
  }
    where
      last : (a : ℕ) → a < 8 → (b : Bool) → eqb a c ≡ b → (cond b k (client_of s a)).connected ≡ true → a ≤ last_client s.sheet.profile
      last a h true e there = omega (arith, u, eqb-true a c e)
      last a h false e there = r.last_in a h there

      pair : (b : Bool) (p : ℕ) → pair_fits s.sheet s.clock (connected s (p / 32)) p (pair_at s p) ≡ true
          → pair_fits s.sheet s.clock (cond b k (client_of s (p / 32))).connected p (cond b no_subscription (pair_at s p)) ≡ true
      pair true p q = pair_of_no_subscription s.sheet s.clock k.connected p
      pair false p q = q

  pub pairs_kept : (l : List Subscription)
      → ((p : ℕ) → p < 256 → pair_fits s.sheet s.clock (connected s (p / 32)) p (get_or l p no_subscription) ≡ true) → InRange (with_pairs s l)
  unfolding stored_ok_at pair_ok_at
  pairs_kept l h = record {
    titles_in = ap (λ b. b || is_blank (with_pairs s l)) titled;
    sensors_in = r.sensors_in;
    clock_in_lem = r.clock_in_lem;
    level_in = r.level_in;
    stored_in = r.stored_in;
    client_in = r.client_in;
    pair_in = h;
    profile_in = r.profile_in;
    last_in = r.last_in;
  }

  -- the present reading of a sensor on the sheet, reported now
  report_now : (p : ℕ) (st : Strategy) → ltb (p % 32) s.sheet.count ≡ true → strategy_ok (sensor_of s.sheet (p % 32)).kind st ≡ true
      → Reported s.clock (sensor_of s.sheet (p % 32)) (record { strategy = st; reported = true; sample = present s (p % 32); time = s.clock })
  report_now p st h f = record {
    has_report = refl;
    strategy_fits = f;
    value_fits = (stored_is s r (p % 32) (ltb-true (p % 32) s.sheet.count h) (omega arith)).0;
    not_later = omega arith;
  }

  pub visit_kept : (cause : Cause) → InRange (with_pairs s (tabulate (pair_after s.sheet s cause) 256))
  unfolding pair_after due_at pair_ok_at
  visit_kept cause = pairs_kept (tabulate (pair_after s.sheet s cause) 256) (λ p h. rw (get_or-tabulate (pair_after s.sheet s cause) 256 p no_subscription h) (visited p (r.pair_in p h)))
    where
      visited : (p : ℕ) → pair_ok_at s p ≡ true → pair_fits s.sheet s.clock (connected s (p / 32)) p (pair_after s.sheet s cause p) ≡ true
      visited p q = go (due_at s.sheet s cause (p / 32) (p % 32) (pair_at s p)) refl
        where
          go : (b : Bool) → due_at s.sheet s cause (p / 32) (p % 32) (pair_at s p) ≡ b
              → pair_fits s.sheet s.clock (connected s (p / 32)) p (cond b (reported s.clock (present s (p % 32)) (pair_at s p)) (pair_at s p)) ≡ true
          go true e = let a = and_true (connected s (p / 32)) _ e in let b = and_true (ltb (p % 32) s.sheet.count) _ a.1 in
              pair_of_report s.sheet s.clock (connected s (p / 32)) p (reported s.clock (present s (p % 32)) (pair_at s p)) a.0 b.0
              (report_now p (pair_at s p).strategy b.0 (pair_suits s.sheet s.clock (connected s (p / 32)) p (pair_at s p) q))
          go false e = q

  -- a pair with a strategy set
  set-fits : (p : ℕ) (st : Strategy) → connected s (p / 32) ≡ true → ltb (p % 32) s.sheet.count ≡ true → strategy_ok (sensor_of s.sheet (p % 32)).kind st ≡ true
      → pair_ok_at s p ≡ true → pair_fits s.sheet s.clock (connected s (p / 32)) p (sampled s.clock (present s (p % 32)) st (pair_at s p)) ≡ true
  unfolding sampled pair_ok_at
  set-fits p st a b f q = go (is_none st) refl
    where
      kept : Subscription
      kept = record { strategy = st; reported = (pair_at s p).reported; sample = (pair_at s p).sample; time = (pair_at s p).time }

      go : (n : Bool) → is_none st ≡ n
          → pair_fits s.sheet s.clock (connected s (p / 32)) p (cond n kept (record { strategy = st; reported = true; sample = present s (p % 32); time = s.clock })) ≡ true
      go true e = pair_cases _ s.sheet s.clock (connected s (p / 32)) p (pair_at s p) q
          (λ k. pair_of_none s.sheet s.clock (connected s (p / 32)) p kept (none-set st (pair_at s p) e k))
          (λ x y w. pair_of_report s.sheet s.clock (connected s (p / 32)) p kept a b
          (record { has_report = w.has_report; strategy_fits = f; value_fits = w.value_fits; not_later = w.not_later }))
      go false e = pair_of_report s.sheet s.clock (connected s (p / 32)) p _ a b (report_now p st b f)

  pub sampled_kept : (c : ℕ) (js : List ℕ) (st : Strategy) → connected s c ≡ true → ((j : ℕ) → has j js ≡ true → j < s.sheet.count)
      → ((j : ℕ) → has j js ≡ true → strategy_ok (sensor_of s.sheet j).kind st ≡ true) → InRange (with_pairs s (sampled_pairs s c js st))
  unfolding sampled_pairs pair_ok_at
  sampled_kept c js st h on fit = pairs_kept (sampled_pairs s c js st) (λ p l. rw (get_or-tabulate _ 256 p no_subscription l) (go p (eqb (p / 32) c && has (p % 32) js) refl (r.pair_in p l)))
    where
      go : (p : ℕ) (b : Bool) → (eqb (p / 32) c && has (p % 32) js) ≡ b → pair_ok_at s p ≡ true
          → pair_fits s.sheet s.clock (connected s (p / 32)) p (cond b (sampled s.clock (present s (p % 32)) st (pair_at s p)) (pair_at s p)) ≡ true
      go p true e q = let a = and_true (eqb (p / 32) c) (has (p % 32) js) e in
          set-fits p st (ap (connected s) (eqb-true (p / 32) c a.0) ∙ h) (lt-ltb (p % 32) s.sheet.count (on (p % 32) a.1)) (fit (p % 32) a.1) q
      go p false e q = q
