-- By the test.
use native.Mathlib.Omega.{arith}
use Rattle.bench.proofs.counted.Goals as goal

pub returns-then-counts : goal.returns-then-counts
returns-then-counts c = (rw c.if-counts.true, omega arith)

pub returns-else-counts : goal.returns-else-counts
returns-else-counts c = (rw c.if-counts.false, omega arith)
