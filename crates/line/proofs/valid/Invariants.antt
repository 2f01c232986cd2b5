-- What the definition says of what is left is what it says of the whole.
use mathlib.Core.Path.{◌≡◌}
use lib.ListN.{length}
use Rattle.line.specs.Line.{valid}
use Rattle.line.proofs.valid.Given as goal

abbrev pub invariant-loop-left : goal.invariant-loop-left
invariant-loop-left l = valid l.left ≡ valid l.w

abbrev pub decreases-loop-left : goal.decreases-loop-left
decreases-loop-left l = length l.left
