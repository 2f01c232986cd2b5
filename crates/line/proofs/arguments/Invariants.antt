-- The words counted and those that are left are as many as the arguments, and those that are left are valid where all are.
use Prim.Native.Nat.{◌+◌, ◌≤◌}
use mathlib.Core.Path.{◌≡◌}
use lib.ListN.{length}
use Rattle.line.specs.Line.{words, behind, all_valid}
use Rattle.line.proofs.arguments.Given as goal

abbrev pub invariant-loop-word : goal.invariant-loop-word
invariant-loop-word l = (l.n + length l.left ≤ length l.initial.left)
    × (all_valid (words l.left) ≡ all_valid (behind l.line))
    × (l.n + length (words l.left) ≡ length (behind l.line))

abbrev pub decreases-loop-word : goal.decreases-loop-word
decreases-loop-word l = length l.left
