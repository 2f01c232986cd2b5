-- The invariant: the places passed are told of.
use native.Mathlib.Omega.{arith}
use mathlib.Core.Path.{sym}
use mathlib.Core.List.{map-map}
use Rattle.message.specs.Delivery.{to}
use Rattle.message.proofs.DeliveryLaws.{as_sent}
use Rattle.machine.specs.Sheet.{sensor_of}
use Rattle.machine.specs.Messages.{sensor_inform}
use Rattle.request.proofs.PassLaws.{passed_on, passed_all}
use Rattle.request.proofs.tell_sensors.Goals as goal

pub loop-place-preserved : goal.loop-place-preserved
loop-place-preserved c = passed_on c.loop-place.invariant (omega arith) c.deliver_sensor-at.ensures

pub returns : goal.returns
returns c = as_sent (passed_all c.loop-place.invariant (omega arith)) (sym (map-map (to c.args.client) (λ j. sensor_inform c.args.id (sensor_of c.args.sheet j)) c.args.places.now))
