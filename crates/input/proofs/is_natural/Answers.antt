-- As many digits as bytes: each byte is a digit.
use Rattle.input.proofs.NumberLaws as number
use Rattle.input.proofs.is_natural.Goals as goal

pub returns : goal.returns
returns c = number.natural_is c.args.t.now c.whole_ok.result c.digits_len.result c.whole_ok.ensures c.digits_len.ensures
