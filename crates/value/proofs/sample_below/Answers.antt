-- The test is that of `below`.
use borrow.Author.Tests.{lt-ltb, le-ltb}
use Rattle.value.proofs.sample_below.Goals as goal

pub returns-then-n-limit : goal.returns-then-n-limit
returns-then-n-limit c = rw (lt-ltb _ _ c.if-n-limit.true) c.valid_sample.ensures

pub returns : goal.returns
returns c = rw (le-ltb _ _ c.if-n-limit.false)
