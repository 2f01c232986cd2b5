-- The numbers that parameters are read as: within bounds, and a difference that suits sensors of both types is one number.
use Rattle.std.specs.Prelude.{Some, None, Option}
use Prim.Native.Nat.{ℕ, ◌+◌, ◌-◌, ◌*◌, ◌%◌, ◌^◌, ◌≤◌, ◌<◌}
use native.Mathlib.Omega.{arith}
use mathlib.Core.Path.{◌≡◌, refl, sym, ◌∙◌}
use mathlib.Core.Bool.{Bool, true, false, cond, ◌&&◌, true≢false}
use mathlib.Core.List.{List, [], ◌∷◌}
use lib.Dec.{eqb, leb}
use lib.ListN.{length}
use borrow.Author.Tests.{leb-true, le-leb, eq-eqb, eqb-false}
use Rattle.output.specs.Read.{value_from, in_difference, in_whole_difference}
use Rattle.value.specs.Parameter.{whole, fraction, plain_decimal, units, decimal_ok, integer_difference_of, float_difference_of, period_of}
use Rattle.value.proofs.ExactLaws.{reads, plain_only}
use Rattle.machine.specs.declared.Sensor.{Sensor}
use Rattle.machine.specs.declared.Sheet.{Sheet}
use Rattle.machine.specs.Places.{any, has}
use Rattle.machine.specs.Sheet.{sensor_of}
use Rattle.machine.specs.Range.{period_ok, difference_ok, rates_ok}
use Rattle.machine.specs.Requests.{is_bad, number_of, first_of, difference_for, difference_of}
use Rattle.machine.proofs.TestLaws.{and_true, and_in}
use Rattle.machine.proofs.PlacesLaws.{none_has}

-- a parameter that is not bad passed its test
passed_test : (b : Bool) (n : ℕ) → is_bad (cond b (Some n) None) ≡ false → (b ≡ true) × (number_of (cond b (Some n) None) ≡ n)
passed_test true n h = (refl, refl)
passed_test false n h = absurd (true≢false h)

-- a decimal that is not refused
record Decimal (k least most : ℕ) (t : List ℕ) : Type 0 where
  plain : plain_decimal t ≡ true
  digits : length (fraction t) ≤ k
  lower : least ≤ units k t
  upper : units k t ≤ most

decimal_out : (k least most : ℕ) (t : List ℕ) → decimal_ok k least most t ≡ true → Decimal k least most t
unfolding decimal_ok
decimal_out k least most t h =
    let a = and_true (plain_decimal t) (leb (length (fraction t)) k && (leb least (units k t) && leb (units k t) most)) h in
    let b = and_true (leb (length (fraction t)) k) (leb least (units k t) && leb (units k t) most) a.1 in
    let c = and_true (leb least (units k t)) (leb (units k t) most) b.1 in
    record { plain = a.0; digits = leb-true (length (fraction t)) k b.0; lower = leb-true least (units k t) c.0; upper = leb-true (units k t) most c.1 }

-- Periods.

pub period_most : (p : ℕ) → period_ok p ≡ true → p ≤ 86400000
period_most p h = leb-true p 86400000 (and_true (leb 1 p) (leb p 86400000) h).1

pub rates_most : (a b : ℕ) → rates_ok a b ≡ true → (a ≤ 86400000) × (b ≤ 86400000)
rates_most a b h = let q = and_true (leb a b) (period_ok b) h in (omega (arith, leb-true a b q.0, period_most b q.1), period_most b q.1)

pub period_fits : (t : List ℕ) → is_bad (period_of t) ≡ false → period_ok (number_of (period_of t)) ≡ true
unfolding period_of
period_fits t h = rw a.1 (and_in (leb 1 (units 3 t)) (leb (units 3 t) 86400000) (le-leb 1 (units 3 t) d.lower) (le-leb (units 3 t) 86400000 d.upper))
  where
    a : (decimal_ok 3 1 86400000 t ≡ true) × (number_of (cond (decimal_ok 3 1 86400000 t) (Some (units 3 t)) None) ≡ units 3 t)
    a = passed_test (decimal_ok 3 1 86400000 t) (units 3 t) h

    d : Decimal 3 1 86400000 t
    d = decimal_out 3 1 86400000 t a.0

-- Differences.

-- an integer's difference
record WholeNumber (t : List ℕ) : Type 0 where
  whole_number : number_of (integer_difference_of t) ≡ units 0 t * 1000000
  whole_decimal : Decimal 0 0 4294967295 t

whole_out : (t : List ℕ) → is_bad (integer_difference_of t) ≡ false → WholeNumber t
unfolding integer_difference_of
whole_out t h = let a = passed_test (decimal_ok 0 0 4294967295 t) (units 0 t * 1000000) h in
    record { whole_number = a.1; whole_decimal = decimal_out 0 0 4294967295 t a.0 }

-- a parameter that is not bad is a number
number_is : (p : Option ℕ) → is_bad p ≡ false → p ≡ Some (number_of p)
number_is (Some n) h = refl
number_is None h = absurd (true≢false h)

-- digits without a fraction, in millionths
units_whole : (w : ℕ) (f : List ℕ) → length f ≤ 0
    → (w * 10 ^ 0 + value_from 0 f * 10 ^ (0 - length f)) * 1000000 ≡ w * 10 ^ 6 + value_from 0 f * 10 ^ (6 - length f)
units_whole w [] h = omega arith
units_whole w (b ∷ f) h = absurd (omega arith)

both_same : (t : List ℕ) → is_bad (integer_difference_of t) ≡ false → is_bad (float_difference_of t) ≡ false → number_of (integer_difference_of t) ≡ number_of (float_difference_of t)
both_same t h k = let a = whole_out t h in
    let d = a.whole_decimal in
    a.whole_number
    ∙ units_whole (value_from 0 (whole t)) (fraction t) d.digits
    ∙ sym (plain_only t (number_of (float_difference_of t)) d.plain (omega (arith, d.digits)) (number_is (float_difference_of t) k))

-- what suits two sensors is the same number for both
difference_same : (n k : Sensor) (t : List ℕ) → is_bad (difference_for n t) ≡ false → is_bad (difference_for k t) ≡ false
    → number_of (difference_for n t) ≡ number_of (difference_for k t)
unfolding difference_for
difference_same n k t = go (eqb n.kind 1) (eqb k.kind 1)
  where
    go : (a b : Bool) → is_bad (cond a (integer_difference_of t) (float_difference_of t)) ≡ false → is_bad (cond b (integer_difference_of t) (float_difference_of t)) ≡ false
        → number_of (cond a (integer_difference_of t) (float_difference_of t)) ≡ number_of (cond b (integer_difference_of t) (float_difference_of t))
    go true true p q = refl
    go true false p q = both_same t p q
    go false true p q = sym (both_same t q p)
    go false false p q = refl

-- and within its bounds
whole_fits : (t : List ℕ) → is_bad (integer_difference_of t) ≡ false → in_whole_difference (number_of (integer_difference_of t)) ≡ true
whole_fits t h = let a = whole_out t h in let u = a.whole_decimal.upper in
    rw a.whole_number (and_in (leb (units 0 t * 1000000) 4294967295000000) (eqb (units 0 t * 1000000 % 1000000) 0)
    (le-leb (units 0 t * 1000000) 4294967295000000 (omega arith)) (eq-eqb (units 0 t * 1000000 % 1000000) 0 (omega arith)))

float_fits : (t : List ℕ) → is_bad (float_difference_of t) ≡ false → in_difference (number_of (float_difference_of t)) ≡ true
float_fits t h = le-leb (number_of (float_difference_of t)) 2097152000000 (reads.only t (number_of (float_difference_of t)) (number_is (float_difference_of t) h)).most

difference_fits : (n : Sensor) (t : List ℕ) → 1 ≤ n.kind → n.kind < 3 → is_bad (difference_for n t) ≡ false → difference_ok n.kind (number_of (difference_for n t)) ≡ true
unfolding difference_for difference_ok
difference_fits n t l h = go (eqb n.kind 1) refl
  where
    go : (b : Bool) → eqb n.kind 1 ≡ b → is_bad (cond b (integer_difference_of t) (float_difference_of t)) ≡ false
        → cond b (in_whole_difference (number_of (cond b (integer_difference_of t) (float_difference_of t))))
        (eqb n.kind 2 && in_difference (number_of (cond b (integer_difference_of t) (float_difference_of t)))) ≡ true
    go true e p = whole_fits t p
    go false e p = and_in (eqb n.kind 2) (in_difference (number_of (float_difference_of t))) (eq-eqb n.kind 2 (omega (arith, eqb-false n.kind 1 e))) (float_fits t p)

-- a difference that a list is given suits each of its sensors
pub differences_fit : (sheet : Sheet) (js : List ℕ) (t : List ℕ) → is_bad (difference_of sheet js t) ≡ false → (j : ℕ) → has j js ≡ true
    → 1 ≤ (sensor_of sheet j).kind → (sensor_of sheet j).kind < 3 → difference_ok (sensor_of sheet j).kind (number_of (difference_of sheet js t)) ≡ true
unfolding difference_of
differences_fit sheet js t h j k l m = go (any (λ j. is_bad (difference_for (sensor_of sheet j) t)) js) refl h
  where
    n : Sensor
    n = sensor_of sheet j

    first : Option ℕ
    first = difference_for (first_of sheet js) t

    go : (b : Bool) → any (λ j. is_bad (difference_for (sensor_of sheet j) t)) js ≡ b → is_bad (cond b None first) ≡ false
        → difference_ok n.kind (number_of (cond b None first)) ≡ true
    go true e p = absurd (true≢false p)
    go false e p = let q = none_has (λ j. is_bad (difference_for (sensor_of sheet j) t)) js j e k in
        rw (difference_same (first_of sheet js) n t p q) (difference_fits n t l m q)
