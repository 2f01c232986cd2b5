-- No row declines the list, so it is that of the places asked for; each is told of, and the reply counts them.
use Rattle.machine.specs.Messages.{value_inform}
use Rattle.machine.specs.Requests.{answer}
use Rattle.machine.specs.Declined.{arguments_declined}
use Rattle.request.specs.Reading.{message_of}
use Rattle.request.proofs.TellLaws.{Asks, few_sensors, told, asks, tells_asked}
use Rattle.request.proofs.sensor_value.Goals as goal

pub sensors_told-requires : goal.sensors_told-requires
sensors_told-requires c = few_sensors c.args.state c.requires.heard.in_range_lem

pub unwrap-list-requires : goal.unwrap-list-requires
unfolding arguments_declined
unwrap-list-requires c = told c.args.state (message_of c.args.asked.line.now) c.requires.heard.in_range_lem c.requires.fits c.sensors_told.ensures

pub tell_values-p-requires : goal.tell_values-p-requires
unfolding arguments_declined
tell_values-p-requires c = let asked : Asks c.args.state.sheet (message_of c.args.asked.line.now) c.unwrap-list.result = asks c.args.state (message_of c.args.asked.line.now) c.requires.heard.in_range_lem c.requires.fits c.sensors_told.ensures c.unwrap-list.ensures in
    rw c.places.ensures asked.below

pub returns : goal.returns
unfolding answer arguments_declined
returns c = let asked : Asks c.args.state.sheet (message_of c.args.asked.line.now) c.unwrap-list.result = asks c.args.state (message_of c.args.asked.line.now) c.requires.heard.in_range_lem c.requires.fits c.sensors_told.ensures c.unwrap-list.ensures in
    tells_asked c.args.asked.line.now c.args.asked.head c.requires.heard.read c.name-name.ensures c.args.state c.args.client (λ id. value_inform id c.args.state c.args.state.sheet) asked c.places.ensures c.tell_values-p.ensures c.deliver_count-written.ensures c.answered.ensures
