-- The bytes counted, and the text that what is left stands for, are as long as the text of the whole.
use Prim.Native.Nat.{◌+◌, ◌≤◌}
use mathlib.Core.Path.{◌≡◌}
use lib.ListN.{length}
use Rattle.line.specs.Line.{unescape}
use Rattle.line.proofs.text_len.Given as goal

abbrev pub invariant-loop-meaning : goal.invariant-loop-meaning
invariant-loop-meaning l = (l.n + length l.left ≤ length l.w) × (l.n + length (unescape l.left) ≡ length (unescape l.w))

abbrev pub decreases-loop-meaning : goal.decreases-loop-meaning
decreases-loop-meaning l = length l.left
