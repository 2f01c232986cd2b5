-- How long the texts of a sensor's values, limits and options are at most.
use Prim.Native.Nat.{ℕ, ◌^◌, ◌≤◌, ◌<◌}
use native.Mathlib.Omega.{arith}
use mathlib.Core.Path.{◌≡◌, refl, ◌∙◌}
use mathlib.Core.Bool.{Bool, true, false, cond, ◌&&◌, ◌||◌}
use mathlib.Core.List.{[], ◌∷◌, map}
use lib.Dec.{eqb, leb, ltb}
use lib.ListN.{length, length-map}
use borrow.Author.Tests.{eqb-true, eqb-false, leb-true, ltb-true, eq-eqb}
use Rattle.output.specs.Number.{decimal, time, integer, float}
use Rattle.output.specs.Read.{in_integer, in_float}
use Rattle.output.proofs.LengthLaws.{length-decimal, length-time, length-integer, length_float}
use Rattle.value.specs.declared.Limits.{Limits}
use Rattle.value.specs.declared.Sample.{Sample}
use Rattle.value.specs.Reading.{is_measured, number_fits}
use Rattle.value.specs.Value.{value_text}
use Rattle.machine.specs.declared.Sensor.{Sensor}
use Rattle.machine.specs.Places.{tabulate, Each}
use Rattle.machine.specs.Sheet.{option_of, limit_ok, limits_none, limits_two, limits_four, limits_ok}
use Rattle.machine.specs.Range.{sample_ok}
use Rattle.machine.specs.Messages.{value_for, limit_numbers, type_args}
use Rattle.machine.proofs.TestLaws.{and_true, or_true, cond_true}
use Rattle.machine.proofs.PlacesLaws.{length-tabulate, each_map, each_tabulate}
use Rattle.machine.proofs.SheetLaws.{measured_most, SensorRules}
use Rattle.machine.proofs.SampleRange.{sample_number}
use Rattle.machine.proofs.LineLengths.{text_short, args_most, args_short}

-- Options.

option_short : (n : Sensor) → SensorRules n → (v : ℕ) → v < n.option_count → length (option_of n v) ≤ 16
option_short n r v l = text_short (r.options_are.option_is v l)

-- Values.

value_short : (n : Sensor) → SensorRules n → (v : ℕ) → number_fits n.kind n.option_count v ≡ true → length (value_for n v) ≤ 19
unfolding number_fits value_for value_text
value_short n r v h = go (eqb n.kind 1) (eqb n.kind 2) (eqb n.kind 3) (eqb n.kind 4) h
  where
    go : (a b c d : Bool)
        → cond a (ltb v (2 ^ 32)) (cond b (leb v (2 ^ 31)) (cond c (leb v 1) (cond d (ltb v n.option_count) (leb v 9999999999999)))) ≡ true
        → length (cond a (integer v) (cond b (float v) (cond c (decimal v) (cond d (option_of n v) (time v))))) ≤ 19
    go true b c d k = omega (arith, length-integer v (ltb-true v (2 ^ 32) k))
    go false true c d k = length_float v (leb-true v (2 ^ 31) k)
    go false false true d k = omega (arith, length-decimal 0 v (omega arith) (omega (arith, leb-true v 1 k)))
    go false false false true k = omega (arith, option_short n r v (ltb-true v n.option_count k))
    go false false false false k = omega (arith, length-time v (leb-true v 9999999999999 k))

pub sample_short : (n : Sensor) → SensorRules n → (x : Sample) → sample_ok n x ≡ true → length (value_for n x.number) ≤ 19
sample_short n r x h = value_short n r x.number (sample_number n r x h)

-- Limits and options.

limit_fits : (t options v : ℕ) → 1 ≤ t → t ≤ 2 → limit_ok t v ≡ true → number_fits t options v ≡ true
unfolding number_fits
limit_fits t options v h k l = go (eqb t 1) refl l
  where
    go : (b : Bool) → eqb t 1 ≡ b → cond b (in_integer v) (in_float v) ≡ true
        → cond b (ltb v (2 ^ 32)) (cond (eqb t 2) (leb v (2 ^ 31)) (cond (eqb t 3) (leb v 1) (cond (eqb t 4) (ltb v options) (leb v 9999999999999)))) ≡ true
    go true e q = q
    go false e q = cond_true (eqb t 2) (leb v (2 ^ 31)) _ (eq-eqb t 2 (omega (arith, eqb-false t 1 e))) ∙ q

limits_few : (l : Limits) → length (limit_numbers l) ≤ 4
unfolding limit_numbers
limits_few l = go (eqb l.count 0) (eqb l.count 2)
  where
    go : (a b : Bool) → length (cond a [] (cond b (l.nominal_min ∷ l.nominal_max ∷ []) (l.nominal_min ∷ l.nominal_max ∷ l.warn_min ∷ l.warn_max ∷ []))) ≤ 4
    go true b = omega arith
    go false true = omega arith
    go false false = omega arith

each_none : (P : ℕ → Type 0) (l : Limits) → limits_none l ≡ true → Each P (limit_numbers l)
unfolding limits_none limit_numbers
each_none P l h = rw (eqb-true l.count 0 (and_true (eqb l.count 0) _ h).0) tt

module _ (P : ℕ → Type 0) (t : ℕ) (l : Limits) (f : (v : ℕ) → limit_ok t v ≡ true → P v) where
  each_two : limits_two t l ≡ true → Each P (limit_numbers l)
  unfolding limits_two limit_numbers
  each_two h =
      let a = and_true (eqb l.count 2) _ h in
      let b = and_true (limit_ok t l.nominal_min) _ a.1 in
      let c = and_true (limit_ok t l.nominal_max) _ b.1 in
      rw (eqb-true l.count 2 a.0) (f l.nominal_min b.0, (f l.nominal_max c.0, tt))

  each_four : limits_four t l ≡ true → Each P (limit_numbers l)
  unfolding limits_four limit_numbers
  each_four h =
      let a = and_true (eqb l.count 4) _ h in
      let b = and_true (limit_ok t l.nominal_min) _ a.1 in
      let c = and_true (limit_ok t l.nominal_max) _ b.1 in
      let d = and_true (limit_ok t l.warn_min) _ c.1 in
      let e = and_true (limit_ok t l.warn_max) _ d.1 in
      rw (eqb-true l.count 4 a.0) (f l.nominal_min b.0, (f l.nominal_max c.0, (f l.warn_min d.0, (f l.warn_max e.0, tt))))

-- what is said of each number that can be a limit of type t
each_limit : (P : ℕ → Type 0) (t : ℕ) (l : Limits) → limits_ok t l ≡ true → (t ≤ 2 → (v : ℕ) → limit_ok t v ≡ true → P v) → Each P (limit_numbers l)
unfolding limits_ok
each_limit P t l h f = or_true _ (limits_none l) (is_measured t && (limits_two t l || limits_four t l)) h (each_none P l) (λ k.
    let q = and_true (is_measured t) (limits_two t l || limits_four t l) k in
    let g = f (measured_most t q.0) in
    or_true _ (limits_two t l) (limits_four t l) q.1 (each_two P t l g) (each_four P t l g))

-- limits or options
pub type_args_most : (n : Sensor) → SensorRules n → args_most (type_args n) ≤ 280
unfolding type_args
type_args_most n r = go (eqb n.kind 4)
  where
    fit : Each (λ v. length (value_for n v) ≤ 19) (limit_numbers n.limits)
    fit = each_limit (λ v. length (value_for n v) ≤ 19) n.kind n.limits r.limits_are (λ k v e. value_short n r v (limit_fits n.kind n.option_count v r.kind_least k e))

    go : (b : Bool) → args_most (cond b (tabulate (option_of n) n.option_count) (map (value_for n) (limit_numbers n.limits))) ≤ 280
    go true = omega (
      arith,
      args_short 16 (tabulate (option_of n) n.option_count) (each_tabulate (λ a. length a ≤ 16) (option_of n) n.option_count (option_short n r)),
      length-tabulate (option_of n) n.option_count,
      r.options_are.few,
    )
    go false = omega (
      arith,
      args_short 19 (map (value_for n) (limit_numbers n.limits)) (each_map (λ a. length a ≤ 19) (value_for n) (limit_numbers n.limits) fit),
      length-map (limit_numbers n.limits) (value_for n),
      limits_few n.limits,
    )
