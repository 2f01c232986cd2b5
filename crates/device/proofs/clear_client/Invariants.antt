-- The invariant: the client's first j places are cleared, the others are as they were.
use mathlib.Core.Path.{◌≡◌}
use Rattle.machine.specs.Places.{tabulate}
use Rattle.device.proofs.ClearLaws.{left_at}
use Rattle.device.proofs.clear_client.Given as goal

abbrev pub invariant-loop-j : goal.invariant-loop-j
invariant-loop-j l = l.pairs ≡ tabulate (left_at l.initial.pairs l.client l.j) 256
