-- The test is that of `only_for`.
use borrow.Author.Tests.{eq-eqb, ne_eqb}
use Rattle.value.proofs.only_for.Goals as goal

pub returns-then-kind-wanted : goal.returns-then-kind-wanted
returns-then-kind-wanted c = rw (eq-eqb _ _ c.if-kind-wanted.true)

pub returns : goal.returns
returns c = rw (ne_eqb _ _ c.if-kind-wanted.false)
