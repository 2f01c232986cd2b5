-- The reply, under the name and id of the line, then the informs to all; the state is emptied.
use Rattle.request.proofs.TellLaws.{ends}
use Rattle.request.proofs.end_all.Goals as goal

pub returns : goal.returns
returns c = ends c.args.asked.line.now c.args.asked.head c.args.asked.read c.name-name.ensures c.args.state c.args.client c.args.why.now c.deliver-p.ensures c.inform_others-written.ensures c.blank_client-state.ensures c.no_subscription-state.ensures c.answered.ensures
