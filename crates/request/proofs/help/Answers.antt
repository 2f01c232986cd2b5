-- The reply of crate replies, under the name and id of the line, on its argument or on all; the state is kept.
use mathlib.Core.Path.{ap}
use mathlib.Core.List.{map}
use Rattle.machine.specs.Messages.{help_inform}
use Rattle.machine.specs.Requests.{help_names, answer}
use Rattle.request.specs.Reading.{message_of}
use Rattle.request.proofs.TellLaws.{tells, help_names_lem}
use Rattle.request.proofs.help.Goals as goal

pub returns : goal.returns
unfolding answer
returns c = tells c.args.asked.line.now c.args.asked.head c.args.asked.read c.name-name.ensures c.args.state c.args.client (λ id. map (help_inform id) (help_names c.args.state.sheet.profile (message_of c.args.asked.line.now))) c.help-written.ensures (ap (map (help_inform c.args.asked.head.id)) (help_names_lem c.args.state.sheet.profile c.args.asked.line.now c.args.asked.head c.args.asked.read c.argument-n.ensures.into_after)) c.answered.ensures
