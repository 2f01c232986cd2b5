-- Status, or numbers of two valid samples.
use Rattle.machine.specs.Report.{moved}
use Rattle.sampling.proofs.has_moved.Goals as goal

pub returns : goal.returns
unfolding moved
returns c = rw (c.status_changed-status.ensures, c.is_beyond-beyond.ensures, c.distance.ensures, c.is_valid-was.ensures, c.is_valid-is.ensures)
