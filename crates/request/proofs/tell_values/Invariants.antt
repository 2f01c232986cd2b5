-- The invariant: the places passed are told of.
use Rattle.output.specs.Output.{output}
use Rattle.message.specs.Delivery.{to}
use Rattle.machine.specs.Messages.{value_inform}
use Rattle.request.proofs.PassLaws.{Passed}
use Rattle.request.proofs.tell_values.Given as goal

abbrev pub invariant-loop-place : goal.invariant-loop-place
invariant-loop-place l = Passed (λ j. to l.client (value_inform l.id l.state l.state.sheet j)) l.places (output l.initial.out 0) l.place-index (output l.out l.at)
