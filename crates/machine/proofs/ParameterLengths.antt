-- How long the parameters of a strategy are at most that a sensor can have.
use Prim.Native.Nat.{ℕ, ◌≤◌}
use native.Mathlib.Omega.{arith}
use mathlib.Core.Path.{◌≡◌}
use mathlib.Core.Bool.{Bool, true, false, cond, ◌&&◌}
use lib.Dec.{eqb, leb}
use lib.ListN.{length}
use borrow.Author.Tests.{leb-true}
use Rattle.output.specs.Number.{time, whole_difference, difference}
use Rattle.output.specs.Read.{in_difference, in_whole_difference}
use Rattle.output.proofs.LengthLaws.{length-time, length-difference, length-whole_difference}
use Rattle.machine.specs.declared.Sensor.{Sensor}
use Rattle.machine.specs.declared.Strategy.{Strategy}
use Rattle.machine.specs.declared.Strategy.TheVariants.{None, Auto, Period, Event, Differential, EventRate, DifferentialRate}
use Rattle.machine.specs.Places.{Each}
use Rattle.machine.specs.Range.{rates_ok, difference_ok, strategy_ok}
use Rattle.machine.specs.Messages.{difference_text, parameter_texts}
use Rattle.machine.proofs.TestLaws.{and_true}
use Rattle.machine.proofs.LineLengths.{args_most, args_short}
use Rattle.machine.proofs.ParameterRange.{period_most, rates_most}

-- the largest difference of a sensor
abbrev largest : Bool → ℕ
largest integer = cond integer 4294967295000000 2097152000000

difference_short : (n : Sensor) (d : ℕ) → d ≤ largest (eqb n.kind 1) → length (difference_text n d) ≤ 14
unfolding difference_text
difference_short n d h = go (eqb n.kind 1) h
  where
    go : (b : Bool) → d ≤ largest b → length (cond b (whole_difference d) (difference d)) ≤ 14
    go true k = omega (arith, length-whole_difference d k)
    go false k = length-difference d k

period_short : (p : ℕ) → p ≤ 86400000 → length (time p) ≤ 14
period_short p h = length-time p (omega arith)

-- every text is at most 14 bytes
abbrev Brief : Sensor → Strategy → Type 0
Brief n st = Each (λ t. length t ≤ 14) (parameter_texts n st)

few : (n : Sensor) (st : Strategy) → length (parameter_texts n st) ≤ 3
few n None = omega arith
few n Auto = omega arith
few n (Period p) = omega arith
few n Event = omega arith
few n (Differential d) = omega arith
few n (EventRate a b) = omega arith
few n (DifferentialRate d a b) = omega arith

brief_most : (n : Sensor) (st : Strategy) → Brief n st → args_most (parameter_texts n st) ≤ 93
brief_most n st h = omega (arith, args_short 14 (parameter_texts n st) h, few n st)

difference_most : (n : Sensor) (d : ℕ) → difference_ok n.kind d ≡ true → d ≤ largest (eqb n.kind 1)
unfolding difference_ok
difference_most n d h = go (eqb n.kind 1) h
  where
    go : (b : Bool) → cond b (in_whole_difference d) (eqb n.kind 2 && in_difference d) ≡ true → d ≤ largest b
    go true k = leb-true d 4294967295000000 (and_true (leb d 4294967295000000) _ k).0
    go false k = leb-true d 2097152000000 (and_true (eqb n.kind 2) (in_difference d) k).1

brief_held : (n : Sensor) (st : Strategy) → strategy_ok n.kind st ≡ true → Brief n st
unfolding strategy_ok
brief_held n None h = tt
brief_held n Auto h = tt
brief_held n (Period p) h = (period_short p (period_most p h), tt)
brief_held n Event h = tt
brief_held n (Differential d) h = (difference_short n d (difference_most n d h), tt)
brief_held n (EventRate a b) h = let q = rates_most a b h in (period_short a q.0, (period_short b q.1, tt))
brief_held n (DifferentialRate d a b) h =
    let k = and_true (difference_ok n.kind d) (rates_ok a b) h in
    let q = rates_most a b k.1 in
    (difference_short n d (difference_most n d k.0), (period_short a q.0, (period_short b q.1, tt)))

pub held_most : (n : Sensor) (st : Strategy) → strategy_ok n.kind st ≡ true → args_most (parameter_texts n st) ≤ 93
held_most n st h = brief_most n st (brief_held n st h)
