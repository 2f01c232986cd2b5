-- The words that are left, from the one that is still to be passed on, hold argument k of the line.
use Prim.Native.Nat.{◌-◌}
use mathlib.Core.Path.{◌≡◌}
use mathlib.Core.List.{[]}
use lib.ListN.{get_or}
use Rattle.line.specs.Line.{words, behind}
use Rattle.line.proofs.argument_word.Given as goal

abbrev pub invariant-loop : goal.invariant-loop
invariant-loop l = get_or (words l.left) (l.k - l.counter) [] ≡ get_or (behind l.line) l.k []
