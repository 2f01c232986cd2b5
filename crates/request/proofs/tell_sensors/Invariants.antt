-- The invariant: the places passed are told of.
use Rattle.output.specs.Output.{output}
use Rattle.message.specs.Delivery.{to}
use Rattle.machine.specs.Sheet.{sensor_of}
use Rattle.machine.specs.Messages.{sensor_inform}
use Rattle.request.proofs.PassLaws.{Passed}
use Rattle.request.proofs.tell_sensors.Given as goal

abbrev pub invariant-loop-place : goal.invariant-loop-place
invariant-loop-place l = Passed (λ j. to l.client (sensor_inform l.id (sensor_of l.sheet j))) l.places (output l.initial.out 0) l.place-index (output l.out l.at)
