-- Each arm is the definition's.
use native.Mathlib.Omega.{arith}
use Rattle.machine.specs.Requests.{shortest_over_longest}
use Rattle.strategies.proofs.is_reversed.Goals as goal

pub returns-in-EventRate : goal.returns-in-EventRate
unfolding shortest_over_longest
returns-in-EventRate c = rw c.in-EventRate.is

pub returns-in-DifferentialRate : goal.returns-in-DifferentialRate
unfolding shortest_over_longest
returns-in-DifferentialRate c = rw c.in-DifferentialRate.is

pub returns-in_default : goal.returns-in_default
unfolding shortest_over_longest
returns-in_default c = grind arith
