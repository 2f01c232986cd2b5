-- Two statuses are compared.
use Rattle.machine.specs.Report.{status_changed}
use Rattle.sampling.proofs.status_changed.Goals as goal

pub returns : goal.returns
unfolding status_changed
returns c = cc
