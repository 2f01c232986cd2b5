-- The tests are those of the definition, parted in another way.
use mathlib.Core.Bool.{and_assoc}
use Rattle.machine.specs.Sheet.{limits_two}
use Rattle.rules.proofs.limits_two.Goals as goal

pub returns : goal.returns
unfolding limits_two
returns c = rw c.ordered-nominal.ensures (simp and_assoc)
