-- So many of the bytes passed are spaces.
use Prim.Native.Nat.{◌≤◌}
use mathlib.Core.Path.{◌≡◌}
use lib.ListN.{length, take}
use Rattle.std.specs.List.{count_by}
use Rattle.input.proofs.SpaceLaws.{is_space}
use Rattle.input.proofs.count_spaces.Given as goal

abbrev pub invariant-loop-b : goal.invariant-loop-b
invariant-loop-b l = (l.b-index ≤ length l.line) × ((l.n ≤ l.b-index) × (l.n ≡ count_by is_space (take l.b-index l.line)))
