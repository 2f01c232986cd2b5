-- The subscription at one place within the range: none, a later clock, a report that replaces the last.
use Prim.Native.Nat.{ℕ, ◌+◌, ◌*◌, ◌/◌, ◌%◌, ◌≤◌, ◌<◌}
use native.Mathlib.Omega.{arith}
use mathlib.Core.Path.{◌≡◌, refl, ap, sym, subst}
use mathlib.Core.Bool.{Bool, true, not, ◌&&◌, ◌||◌}
use lib.Dec.{eqb, leb, ltb}
use borrow.Author.Tests.{leb-true, le-leb}
use Rattle.machine.specs.declared.Sensor.{Sensor}
use Rattle.machine.specs.declared.Sheet.{Sheet}
use Rattle.machine.specs.declared.Strategy.{Strategy}
use Rattle.machine.specs.declared.Subscription.{Subscription}
use Rattle.machine.specs.Sheet.{sensor_of}
use Rattle.machine.specs.State.{no_subscription, pair_of, connected}
use Rattle.machine.specs.Range.{sample_ok, sample_none, strategy_ok, is_none, pair_none, pair_reported, pair_ok_at}
use Rattle.machine.proofs.TestLaws.{and_true, and_in, or_true, or_in}
use Rattle.machine.specs.declared.State.{State}
use Rattle.machine.proofs.RangeLaws.{InRange, none_is, sensors_of}
use Rattle.machine.proofs.StateLaws.{place_sensor}

-- what `pair_ok_at` tests of the subscription at place p, of a client that is there or not
abbrev pub pair_fits : Sheet → ℕ → Bool → ℕ → Subscription → Bool
pair_fits sheet clock there p x = pair_none x || (there && (ltb (p % 32) sheet.count && pair_reported clock (sensor_of sheet (p % 32)) x))

-- a subscription with a report, as facts
pub record Reported (clock : ℕ) (n : Sensor) (x : Subscription) : Type 0 where
  pub has_report : x.reported ≡ true
  pub strategy_fits : strategy_ok n.kind x.strategy ≡ true
  pub value_fits : sample_ok n x.sample ≡ true
  pub not_later : x.time ≤ clock

pub reported_out : (clock : ℕ) (n : Sensor) (x : Subscription) → pair_reported clock n x ≡ true → Reported clock n x
unfolding pair_reported
reported_out clock n x h =
    let a = and_true x.reported (strategy_ok n.kind x.strategy && (sample_ok n x.sample && leb x.time clock)) h in
    let b = and_true (strategy_ok n.kind x.strategy) (sample_ok n x.sample && leb x.time clock) a.1 in
    let c = and_true (sample_ok n x.sample) (leb x.time clock) b.1 in
    record { has_report = a.0; strategy_fits = b.0; value_fits = c.0; not_later = leb-true x.time clock c.1 }

pub reported_of : (clock : ℕ) (n : Sensor) (x : Subscription) → Reported clock n x → pair_reported clock n x ≡ true
unfolding pair_reported
reported_of clock n x r =
    and_in x.reported (strategy_ok n.kind x.strategy && (sample_ok n x.sample && leb x.time clock)) r.has_report
    (and_in (strategy_ok n.kind x.strategy) (sample_ok n x.sample && leb x.time clock) r.strategy_fits
    (and_in (sample_ok n x.sample) (leb x.time clock) r.value_fits (le-leb x.time clock r.not_later)))

-- a subscription within the range is none, or its client is there, its sensor on the sheet and it has a report
pub pair_cases : (P : Type 0) (sheet : Sheet) (clock : ℕ) (there : Bool) (p : ℕ) (x : Subscription) → pair_fits sheet clock there p x ≡ true
    → (pair_none x ≡ true → P) → (there ≡ true → ltb (p % 32) sheet.count ≡ true → Reported clock (sensor_of sheet (p % 32)) x → P) → P
pair_cases P sheet clock there p x h f g =
    or_true P (pair_none x) (there && (ltb (p % 32) sheet.count && pair_reported clock (sensor_of sheet (p % 32)) x)) h f
    (λ k. let a = and_true there (ltb (p % 32) sheet.count && pair_reported clock (sensor_of sheet (p % 32)) x) k in
    let b = and_true (ltb (p % 32) sheet.count) (pair_reported clock (sensor_of sheet (p % 32)) x) a.1 in
    g a.0 b.0 (reported_out clock (sensor_of sheet (p % 32)) x b.1))

pub pair_of_none : (sheet : Sheet) (clock : ℕ) (there : Bool) (p : ℕ) (x : Subscription) → pair_none x ≡ true → pair_fits sheet clock there p x ≡ true
pair_of_none sheet clock there p x h = ap (λ b. b || (there && (ltb (p % 32) sheet.count && pair_reported clock (sensor_of sheet (p % 32)) x))) h

pub pair_of_report : (sheet : Sheet) (clock : ℕ) (there : Bool) (p : ℕ) (x : Subscription) → there ≡ true → ltb (p % 32) sheet.count ≡ true
    → Reported clock (sensor_of sheet (p % 32)) x → pair_fits sheet clock there p x ≡ true
pair_of_report sheet clock there p x h k r =
    or_in (pair_none x) (there && (ltb (p % 32) sheet.count && pair_reported clock (sensor_of sheet (p % 32)) x))
    (and_in there (ltb (p % 32) sheet.count && pair_reported clock (sensor_of sheet (p % 32)) x) h
    (and_in (ltb (p % 32) sheet.count) (pair_reported clock (sensor_of sheet (p % 32)) x) k (reported_of clock (sensor_of sheet (p % 32)) x r)))

pub pair_same : (sheet : Sheet) (clock : ℕ) (there also : Bool) (p : ℕ) (x y : Subscription) → there ≡ also → x ≡ y
    → pair_fits sheet clock also p y ≡ true → pair_fits sheet clock there p x ≡ true
pair_same sheet clock there also p x y e f h = rw (e, f) h

-- "Every pair starts as none, without a report"
pub pair_of_no_subscription : (sheet : Sheet) (clock : ℕ) (there : Bool) (p : ℕ) → pair_fits sheet clock there p no_subscription ≡ true
unfolding pair_none is_none
pair_of_no_subscription sheet clock there p = refl

pub pair_later : (sheet : Sheet) (clock t : ℕ) (there : Bool) (p : ℕ) (x : Subscription) → clock ≤ t → pair_fits sheet clock there p x ≡ true → pair_fits sheet t there p x ≡ true
pair_later sheet clock t there p x l h = pair_cases _ sheet clock there p x h (pair_of_none sheet t there p x)
    (λ a b r. pair_of_report sheet t there p x a b (record { has_report = r.has_report; strategy_fits = r.strategy_fits; value_fits = r.value_fits; not_later = omega (arith, r.not_later) }))

none_suits : (t : ℕ) (st : Strategy) → is_none st ≡ true → strategy_ok t st ≡ true
unfolding strategy_ok
none_suits t st h = subst (λ k. strategy_ok t k ≡ true) (sym (none_is st h)) refl

-- the strategy that a pair has suits its sensor
pub pair_suits : (sheet : Sheet) (clock : ℕ) (there : Bool) (p : ℕ) (x : Subscription) → pair_fits sheet clock there p x ≡ true
    → strategy_ok (sensor_of sheet (p % 32)).kind x.strategy ≡ true
unfolding pair_none
pair_suits sheet clock there p x h = pair_cases _ sheet clock there p x h
    (λ k. none_suits (sensor_of sheet (p % 32)).kind x.strategy
    (and_true (is_none x.strategy) (sample_none x.sample && eqb x.time 0) (and_true (not x.reported) (is_none x.strategy && (sample_none x.sample && eqb x.time 0)) k).1).0)
    (λ a b r. r.strategy_fits)

-- the strategy that a client has for a sensor suits the sensor
pub held_suits : (s : State) → InRange s → (c j : ℕ) → c < 8 → j < s.sheet.count → strategy_ok (sensor_of s.sheet j).kind (pair_of s c j).strategy ≡ true
unfolding pair_ok_at
held_suits s r c j hc hj = subst (λ i. strategy_ok (sensor_of s.sheet i).kind (pair_of s c j).strategy ≡ true) (place_sensor c j l)
    (pair_suits s.sheet s.clock (connected s ((c * 32 + j) / 32)) (c * 32 + j) (pair_of s c j) (r.pair_in (c * 32 + j) (omega (arith, l, hc))))
  where
    l : j < 32
    l = omega (arith, (sensors_of s r).count_most)
