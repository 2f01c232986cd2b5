-- The tests are those of `range_status`.
use Rattle.value.proofs.range_status.Goals as goal

pub returns-then-l-n : goal.returns-then-l-n
returns-then-l-n c = rw c.if-l-n.true

pub returns-then-l-n-2 : goal.returns-then-l-n-2
returns-then-l-n-2 c = rw (c.if-l-n.false, c.if-l-n-2.true)

pub returns : goal.returns
returns c = rw (c.if-l-n.false, c.if-l-n-2.false)
