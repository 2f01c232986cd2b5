-- The clients passed are in range.
use mathlib.Core.Path.{◌≡◌}
use Rattle.machine.specs.Places.{all_below}
use Rattle.machine.specs.Range.{client_ok_at}
use Rattle.sheet.proofs.clients_ok.Given as goal

abbrev pub invariant-loop-client : goal.invariant-loop-client
invariant-loop-client l = l.ok ≡ all_below (client_ok_at l.fn.clients) l.client-index
