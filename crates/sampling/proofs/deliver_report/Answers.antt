-- The inform of that name, without id.
use Rattle.machine.specs.Messages.{report}
use borrow.Author.Rules.{rules}
use Rattle.sampling.proofs.deliver_report.Goals as goal

pub returns : goal.returns
unfolding report
returns c = search rules
