-- The reply of crate replies, under the name and id of the line; the state is kept.
use mathlib.Core.Path.{refl}
use mathlib.Core.List.{[], ◌∷◌, map}
use Rattle.machine.specs.Messages.{protocol_args, device_args, version_inform}
use Rattle.machine.specs.Requests.{answer}
use Rattle.request.proofs.TellLaws.{tells}
use Rattle.request.proofs.version_list.Goals as goal

pub returns : goal.returns
unfolding answer
returns c = tells c.args.asked.line.now c.args.asked.head c.args.asked.read c.name-name.ensures c.args.state c.args.client (λ id. map (version_inform id) (protocol_args c.args.state.sheet.profile ∷ device_args c.args.state.sheet ∷ [])) c.version_list-written.ensures refl c.answered.ensures
