-- By the branch.
use Rattle.machine.specs.Sheet.{limits_none}
use Rattle.rules.proofs.limits_at.Goals as goal

pub returns-then-there : goal.returns-then-there
returns-then-there c = rw c.if-there.true c.limits_ok.ensures

pub returns : goal.returns
unfolding limits_none
returns c = rw c.if-there.false c.eq.ensures
