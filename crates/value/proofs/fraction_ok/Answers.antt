-- The tests are those of `fraction_ok`.
use Rattle.value.proofs.DecimalLaws.{fraction_none, fraction_some}
use Rattle.value.proofs.fraction_ok.Goals as goal

pub returns-then-s-eq0 : goal.returns-then-s-eq0
returns-then-s-eq0 c = fraction_none c.args.s.now c.if-s-eq0.true

pub returns : goal.returns
returns c = fraction_some c.args.s.now c.rest-rest.result.now c.digits_len.result c.if-s-eq0.false c.rest-rest.ensures c.digits_len.ensures
