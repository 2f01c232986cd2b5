-- A digit of the long division, and the rest.
use Rattle.std.proofs.Common.{sym, arith}
use native.Mathlib.Nat.{mod-lt}
use Rattle.output.proofs.OutputLaws.{then, said, blank}
use Rattle.output.proofs.NumberLaws.{fraction_none, fraction_last, fraction_more}
use Rattle.output.proofs.+put_fraction.Goals as goal

pub returns-then-left-eq0 : goal.returns-then-left-eq0
returns-then-left-eq0 t c = said blank (sym (fraction_none c.args.base c.args.left c.args.f c.if-left-eq0.true))

pub returns-then-rest-eq0 : goal.returns-then-rest-eq0
returns-then-rest-eq0 t c = said c.put_digit-p.ensures (sym (fraction_last c.args.base c.args.left c.args.f c.if-left-eq0.false c.if-rest-eq0.true))

pub put_fraction-requires : goal.put_fraction-requires
put_fraction-requires t c = (omega arith, (mod-lt _ (omega arith), omega arith))

pub returns : goal.returns
returns t c = said (then c.put_digit-p.ensures c.put_fraction.ensures) (sym (fraction_more c.args.base c.args.left c.args.f c.if-left-eq0.false c.if-rest-eq0.false))
