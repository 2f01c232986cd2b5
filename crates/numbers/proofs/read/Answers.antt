-- The number that the text is tried as, written again, is compared with the text.
use native.Mathlib.Omega.{arith}
use mathlib.Core.Path.{◌∙◌}
use Rattle.numbers.proofs.NumberLaws as number
use Rattle.numbers.proofs.read.Goals as goal

pub returns : goal.returns
returns c = rw (c.then_some.ensures, c.in_range.ensures, c.eq.ensures)
    (number.read_again (number.numbers c.args.notation) c.tried-n.ensures c.put_number-p.ensures (omega arith) c.prefix.ensures)
