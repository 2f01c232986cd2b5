-- What the definition says of what is left, with n read so far, is what it says of the whole.
use Prim.Native.Nat.{◌≤◌}
use mathlib.Core.Path.{◌≡◌}
use lib.ListN.{length}
use Rattle.line.specs.Line.{id_from}
use Rattle.line.proofs.id_from.Given as goal

abbrev pub invariant-loop-left : goal.invariant-loop-left
invariant-loop-left l = (l.n ≤ 2147483647) × (id_from l.n l.left ≡ id_from 0 l.t)

abbrev pub decreases-loop-left : goal.decreases-loop-left
decreases-loop-left l = length l.left
