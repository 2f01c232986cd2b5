-- The reply of crate replies, under the name and id of the line; the state is kept.
use mathlib.Core.Path.{refl}
use mathlib.Core.List.{map}
use Rattle.machine.specs.Messages.{client_inform}
use Rattle.machine.specs.Requests.{addresses, answer}
use Rattle.request.proofs.TellLaws.{tells}
use Rattle.request.proofs.client_list.Goals as goal

pub returns : goal.returns
unfolding answer addresses
returns c = tells c.args.asked.line.now c.args.asked.head c.args.asked.read c.name-name.ensures c.args.state c.args.client (λ id. map (client_inform id) (addresses c.args.state)) c.client_list-written.ensures refl c.answered.ensures
