-- The state that opening returns is in range: the blank one, and that of a sheet that keeps the rules.
use Prim.Native.Nat.{ℕ, ◌/◌, ◌≤◌, ◌<◌}
use native.Mathlib.Omega.{arith}
use mathlib.Core.Path.{◌≡◌, refl, ap, sym, ◌∙◌}
use mathlib.Core.Bool.{Bool, true, false, cond, ◌||◌, true≢false}
use mathlib.Core.List.{[], ◌∷◌}
use lib.Dec.{eqb, leb, ltb}
use lib.ListN.{get_or, replicate}
use borrow.Author.Tests.{leb-true}
use Rattle.value.specs.Reading.{fresh as fresh_sample}
use Rattle.value.proofs.SampleLaws.{fresh_fits}
use Rattle.machine.specs.declared.Sheet.{Sheet}
use Rattle.machine.specs.declared.Client.{Client}
use Rattle.machine.specs.Places.{all_below}
use Rattle.machine.specs.Sheet.{last_client, sensor_of, text_ok, choice_none, limits_none, sensor_none, distinct, sensors_ok, titles_none, titles_ok, sheet_ok}
use Rattle.machine.specs.State.{no_stored, no_subscription, no_client, connected, blank_client, blank_sheet, fresh_readings, fresh, blank}
use Rattle.machine.specs.Range.{sample_ok, stored_ok, stored_none, stored_ok_at, client_ok, pair_ok_at, no_clients, is_blank}
use Rattle.machine.specs.Opening.{Taken, broken, taken, sheet_at, Start, with_profile, not_opened, accepted, opened}
use Rattle.machine.proofs.TestLaws.{and_true, and_in, or_in, cond_cases}
use Rattle.machine.proofs.PlacesLaws.{below_at, get_or-tabulate, get_or-replicate_same, replicate-either}
use Rattle.machine.proofs.RangeLaws.{InRange}
use Rattle.machine.proofs.PairRange.{pair_fits, pair_of_no_subscription}
use Rattle.machine.specs.declared.Opened.{Opened}
use Rattle.machine.specs.declared.State.{State}

-- Nobody is connected, and no pair is set.

pub none_connected_in : (c : ℕ) → client_ok (get_or (replicate 8 blank_client) c no_client) ≡ true
unfolding client_ok text_ok
none_connected_in c = replicate-either (λ (k : Client). client_ok k ≡ true) 8 c blank_client no_client refl refl

pub no_pair_in : (sheet : Sheet) (clock : ℕ) (there : Bool) (p : ℕ) → pair_fits sheet clock there p (get_or (replicate 256 no_subscription) p no_subscription) ≡ true
no_pair_in sheet clock there p = rw (get_or-replicate_same 256 p no_subscription) (pair_of_no_subscription sheet clock there p)

none_connected_at : (c : ℕ) → (get_or (replicate 8 blank_client) c no_client).connected ≡ false
none_connected_at c = replicate-either (λ (k : Client). k.connected ≡ false) 8 c blank_client no_client refl refl

no_last_in : (last c : ℕ) → (get_or (replicate 8 blank_client) c no_client).connected ≡ true → c ≤ last
no_last_in last c there = absurd (true≢false (sym there ∙ none_connected_at c))

-- The blank state.

blank_titles : is_blank blank ≡ true
unfolding is_blank titles_none text_ok no_clients all_below
blank_titles = refl

blank_sensors : sensors_ok blank_sheet ≡ true
unfolding sensors_ok sensor_none text_ok limits_none choice_none distinct all_below
blank_sensors = refl

blank_stored : all_below (stored_ok_at blank.sheet blank.clock blank.readings) 32 ≡ true
unfolding stored_ok_at stored_none all_below
blank_stored = refl

pub blank_range : InRange blank
unfolding pair_ok_at
blank_range = record {
  titles_in = or_in (titles_ok blank_sheet) (is_blank blank) blank_titles;
  sensors_in = blank_sensors;
  clock_in_lem = omega arith;
  level_in = omega arith;
  stored_in = λ j h. below_at (stored_ok_at blank.sheet blank.clock blank.readings) 32 j blank_stored h;
  client_in = λ c h. none_connected_in c;
  pair_in = λ p h. no_pair_in blank_sheet 0 (connected blank (p / 32)) p;
  profile_in = omega arith;
  last_in = λ c h. no_last_in 7 c;
}

-- A fresh device.

module _ (sheet : Sheet) where
  fresh_stored_lem : (j : ℕ) → j < 32 → stored_ok_at sheet 0 (fresh sheet).readings j ≡ true
  unfolding stored_ok_at stored_ok stored_none fresh_readings
  fresh_stored_lem j h = rw (get_or-tabulate _ 32 j no_stored h) (go (ltb j sheet.count))
    where
      go : (b : Bool) → cond b (stored_ok 0 (sensor_of sheet j) (cond b (record { sample = fresh_sample (sensor_of sheet j).kind; time = 0 }) no_stored))
          (stored_none (cond b (record { sample = fresh_sample (sensor_of sheet j).kind; time = 0 }) no_stored)) ≡ true
      go true = and_in (sample_ok (sensor_of sheet j) (fresh_sample (sensor_of sheet j).kind)) (leb 0 0) (fresh_fits (sensor_of sheet j).kind (sensor_of sheet j).option_count) refl
      go false = refl

  pub fresh_range : sheet_ok sheet ≡ true → sheet.profile ≤ 1 → InRange (fresh sheet)
  unfolding sheet_ok pair_ok_at
  fresh_range h k = let a = and_true (titles_ok sheet) (sensors_ok sheet) h in record {
    titles_in = ap (λ b. b || is_blank (fresh sheet)) a.0;
    sensors_in = a.1;
    clock_in_lem = omega arith;
    level_in = omega arith;
    stored_in = fresh_stored_lem;
    client_in = λ c h. none_connected_in c;
    pair_in = λ p h. no_pair_in sheet 0 (connected (fresh sheet) (p / 32)) p;
    profile_in = k;
    last_in = λ c h. no_last_in (last_client sheet.profile) c;
  }

-- a device opens with the fresh state of a sheet under its profile, or not at all
pub opened_cases : (P : Opened → Type 0) (start : Start)
    → ((sheet : Sheet) → sheet_ok sheet ≡ true → start.profile ≤ 1 → P (record { number = 0; state = fresh (with_profile sheet start.profile) }))
    → ((n : ℕ) → eqb n 0 ≡ false → P (not_opened n)) → P (opened start)
unfolding opened
opened_cases P start opens fails = cond_cases P (leb start.profile 1) _ _ (λ e. go (leb-true start.profile 1 e) (sheet_at start.bytes)) (λ e. fails 31 refl)
  where
    go : start.profile ≤ 1 → (t : Taken Sheet) → P (accepted start.profile t)
    go l broken = fails 4 refl
    go l (taken sheet []) = cond_cases P (sheet_ok sheet) _ _ (λ e. opens sheet e l) (λ e. fails 4 refl)
    go l (taken sheet (b ∷ rest)) = fails 4 refl

-- an opened state is a fresh one, of a sheet that keeps the rules and has a profile, or the blank one
pub opened_either : (P : State → Type 0) (start : Start) → ((sheet : Sheet) → sheet_ok sheet ≡ true → sheet.profile ≤ 1 → P (fresh sheet)) → P blank → P (opened start).state
unfolding sheet_ok titles_ok sensors_ok
opened_either P start new old = opened_cases (λ (o : Opened). P o.state) start (λ sheet e l. new (with_profile sheet start.profile) e l) (λ n z. old)

pub opened_range : (start : Start) → InRange (opened start).state
opened_range start = opened_either InRange start fresh_range blank_range
