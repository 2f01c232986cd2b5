-- The reply, under the name and id of the line; the state is kept.
use mathlib.Core.List.{[], ◌∷◌}
use Rattle.output.specs.Text.{text}
use Rattle.machine.specs.Requests.{answer}
use Rattle.request.proofs.TellLaws.{replies}
use Rattle.request.proofs.watchdog.Goals as goal

pub returns : goal.returns
unfolding answer
returns c = replies c.args.asked.line.now c.args.asked.head c.args.asked.read c.name-name.ensures c.args.state c.args.client (text "ok" ∷ []) c.deliver-written.ensures c.answered.ensures
