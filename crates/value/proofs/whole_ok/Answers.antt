-- The tests are those of `whole_ok`.
use Rattle.value.proofs.DecimalLaws.{whole_none, whole_some}
use Rattle.value.proofs.whole_ok.Goals as goal

pub returns-then-w-eq0 : goal.returns-then-w-eq0
returns-then-w-eq0 c = whole_none c.args.w.now c.if-w-eq0.true

pub returns : goal.returns
returns c = whole_some c.args.w.now c.if-w-eq0.false
