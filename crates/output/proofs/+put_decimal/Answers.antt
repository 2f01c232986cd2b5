-- The number's text is its tenth's and a digit more.
use Rattle.std.proofs.Common.{sym, arith}
use Rattle.output.proofs.OutputLaws.{then, said}
use Rattle.output.proofs.NumberLaws.{decimal_small, decimal_step}
use Rattle.output.proofs.+put_decimal.Goals as goal

pub returns-then-n-lt10 : goal.returns-then-n-lt10
returns-then-n-lt10 t c = said c.put_digit.ensures (sym (decimal_small c.args.n (omega arith)))

pub returns : goal.returns
returns t c = said (then c.put_decimal-p.ensures c.put_digit-2.ensures) (sym (decimal_step c.args.n (omega arith) c.ranges.n.fits))
