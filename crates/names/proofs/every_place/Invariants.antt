-- The places passed are written, the others are zero.
use mathlib.Core.Path.{◌≡◌}
use mathlib.Core.List.{◌++◌}
use lib.ListN.{drop, replicate}
use Rattle.machine.specs.Places.{tabulate}
use Rattle.names.proofs.every_place.Given as goal

abbrev pub invariant-loop-j : goal.invariant-loop-j
invariant-loop-j l = l.places ≡ tabulate (λ j. j) l.j ++ drop l.j (replicate 32 0)
