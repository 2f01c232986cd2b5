-- Status or number.
use Rattle.machine.specs.Report.{changed}
use Rattle.sampling.proofs.is_changed.Goals as goal

pub returns : goal.returns
unfolding changed
returns c = cc
