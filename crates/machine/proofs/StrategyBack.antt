-- A strategy and its parameters, read back from their texts.
use Prim.Native.Nat.{ℕ, ◌≤◌, ◌<◌}
use native.Mathlib.Omega.{arith}
use mathlib.Core.Path.{◌≡◌, refl}
use mathlib.Core.Bool.{Bool, true, false, cond, ◌&&◌}
use mathlib.Core.List.{List, [], ◌∷◌}
use Rattle.std.specs.Prelude.{Some}
use lib.Dec.{eqb}
use lib.ListN.{length}
use borrow.Author.Tests.{le-leb, eqb-true}
use Rattle.output.specs.Number.{time, difference, whole_difference}
use Rattle.output.specs.Read.{in_difference, in_whole_difference, read_time, read_difference, read_whole_difference}
use Rattle.output.proofs.ReadBack.{times, differences, whole_differences}
use Rattle.machine.specs.declared.Sensor.{Sensor}
use Rattle.machine.specs.declared.Strategy.{Strategy}
use Rattle.machine.specs.declared.Strategy.TheVariants.{None, Auto, Period, Event, Differential, EventRate, DifferentialRate}
use Rattle.machine.specs.Places.{all_below, first_below}
use Rattle.machine.specs.Range.{rates_ok, difference_ok, strategy_ok}
use Rattle.machine.specs.Messages.{strategy_text, strategy_kind, difference_text, parameter_texts}
use Rattle.machine.specs.Requests.{strategy_named, parameter_count, strategy_by}
use Rattle.machine.specs.Reader.{read_difference_for, parameters_read, all_numbers}
use Rattle.machine.proofs.TestLaws.{and_true}
use Rattle.machine.proofs.PlacesLaws.{below_at}
use Rattle.machine.proofs.ParameterRange.{period_most, rates_most}

-- the numbers of a strategy's parameters, in the order of their texts
pub numbers_of : Strategy → List ℕ
numbers_of None = []
numbers_of Auto = []
numbers_of (Period p) = p ∷ []
numbers_of Event = []
numbers_of (Differential d) = d ∷ []
numbers_of (EventRate a b) = a ∷ b ∷ []
numbers_of (DifferentialRate d a b) = d ∷ a ∷ b ∷ []

strategy_words : all_below (λ k. eqb (strategy_named (strategy_text k)) k) 7 ≡ true
unfolding all_below first_below strategy_named strategy_text
strategy_words = refl

pub strategy_named_lem : (k : ℕ) → k < 7 → strategy_named (strategy_text k) ≡ k
strategy_named_lem k h = eqb-true _ k (below_at (λ k. eqb (strategy_named (strategy_text k)) k) 7 k strategy_words h)

pub kind_most : (st : Strategy) → strategy_kind st < 7
kind_most None = omega arith
kind_most Auto = omega arith
kind_most (Period p) = omega arith
kind_most Event = omega arith
kind_most (Differential d) = omega arith
kind_most (EventRate a b) = omega arith
kind_most (DifferentialRate d a b) = omega arith

-- a strategy is its place and its numbers
pub strategy_by_lem : (st : Strategy) → strategy_by (strategy_kind st) (numbers_of st) ≡ st
unfolding strategy_by numbers_of
strategy_by_lem None = refl
strategy_by_lem Auto = refl
strategy_by_lem (Period p) = refl
strategy_by_lem Event = refl
strategy_by_lem (Differential d) = refl
strategy_by_lem (EventRate a b) = refl
strategy_by_lem (DifferentialRate d a b) = refl

difference_read : (n : Sensor) (d : ℕ) → difference_ok n.kind d ≡ true → read_difference_for n (difference_text n d) ≡ Some d
unfolding read_difference_for difference_text difference_ok
difference_read n d h = go (eqb n.kind 1) h
  where
    go : (b : Bool) → cond b (in_whole_difference d) (eqb n.kind 2 && in_difference d) ≡ true
        → cond b (read_whole_difference (cond b (whole_difference d) (difference d))) (read_difference (cond b (whole_difference d) (difference d))) ≡ Some d
    go true k = whole_differences.back d k
    go false k = differences.back d (and_true (eqb n.kind 2) (in_difference d) k).1

period_read : (p : ℕ) → p ≤ 86400000 → read_time (time p) ≡ Some p
period_read p h = times.back p (le-leb p 9999999999999 (omega arith))

-- "shortest .. longest", as they are read
rates_read : (a b : ℕ) → rates_ok a b ≡ true → (read_time (time a) ≡ Some a) × (read_time (time b) ≡ Some b)
rates_read a b h = let q = rates_most a b h in (period_read a q.0, period_read b q.1)

-- the parameters read back, for a sensor that can have the strategy
pub parameters_read_lem : (n : Sensor) (st : Strategy) → strategy_ok n.kind st ≡ true
    → all_numbers (parameters_read n (strategy_kind st) (parameter_texts n st)) ≡ Some (numbers_of st)
unfolding parameters_read numbers_of strategy_ok
parameters_read_lem n None h = refl
parameters_read_lem n Auto h = refl
parameters_read_lem n (Period p) h = rw (period_read p (period_most p h))
parameters_read_lem n Event h = refl
parameters_read_lem n (Differential d) h = rw (difference_read n d h)
parameters_read_lem n (EventRate a b) h = rw ((rates_read a b h).0, (rates_read a b h).1)
parameters_read_lem n (DifferentialRate d a b) h =
    let q = and_true (difference_ok n.kind d) (rates_ok a b) h in
    rw (difference_read n d q.0, (rates_read a b q.1).0, (rates_read a b q.1).1)

pub parameters_count : (n : Sensor) (st : Strategy) → length (parameter_texts n st) ≡ parameter_count (strategy_kind st)
parameters_count n None = refl
parameters_count n Auto = refl
parameters_count n (Period p) = refl
parameters_count n Event = refl
parameters_count n (Differential d) = refl
parameters_count n (EventRate a b) = refl
parameters_count n (DifferentialRate d a b) = refl
