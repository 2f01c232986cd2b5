-- The tests are those that `within` makes.
use borrow.Author.Tests.{le-leb, lt-leb}
use Rattle.value.proofs.fit_size.Goals as goal

pub returns-then-n-gt-FLOAT_ZERO : goal.returns-then-n-gt-FLOAT_ZERO
returns-then-n-gt-FLOAT_ZERO c = simp (lt-leb _ _ c.if-n-gt-FLOAT_ZERO.true)

pub returns-then-negative : goal.returns-then-negative
returns-then-negative c = simp (le-leb _ _ c.if-n-gt-FLOAT_ZERO.false, c.if-negative.true)

pub returns : goal.returns
returns c = simp (le-leb _ _ c.if-n-gt-FLOAT_ZERO.false, c.if-negative.false)
