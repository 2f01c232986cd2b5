-- The connections end, with the level kept.
use Rattle.machine.specs.Requests.{answer}
use Rattle.request.proofs.halt.Goals as goal

pub returns : goal.returns
unfolding answer
returns c = c.end_all.ensures
