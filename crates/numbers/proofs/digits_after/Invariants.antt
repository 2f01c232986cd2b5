-- The number so far and the digits of the rest make the number of the text, `most` at most.
use Prim.Native.Nat.{◌≤◌, min}
use mathlib.Core.Path.{◌≡◌}
use lib.ListN.{drop}
use Rattle.output.specs.Read.{value_from}
use Rattle.numbers.proofs.digits_after.Given as goal

abbrev pub invariant-loop-b : goal.invariant-loop-b
invariant-loop-b l = (l.m ≤ l.most) × (min (value_from l.m (drop l.b-index l.t)) l.most ≡ min (value_from l.n l.t) l.most)
