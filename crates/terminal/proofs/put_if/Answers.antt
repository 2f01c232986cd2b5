-- By the two ways of the branch.
use Rattle.output.proofs.OutputLaws.{blank}
use Rattle.terminal.proofs.put_if.Goals as goal

pub returns-then-own : goal.returns-then-own
returns-then-own c = rw c.if-own.true c.put_bytes.ensures

pub returns : goal.returns
returns c = rw c.if-own.false blank
