-- The connections end, with the level of a fresh device.
use Rattle.machine.specs.Requests.{answer}
use Rattle.request.proofs.restart.Goals as goal

pub returns : goal.returns
unfolding answer
returns c = rw c.start_level-level.ensures at c.end_all.ensures
