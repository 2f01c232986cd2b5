-- The test itself.
use Rattle.machine.specs.State.{supersedes}
use Rattle.device.proofs.does_supersede.Goals as goal

pub returns : goal.returns
unfolding supersedes
returns c = rw c.is_unknown.ensures
