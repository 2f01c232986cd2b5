-- The tests are those of the definition.
use Rattle.scientific.proofs.ReadLaws.{exponent_tests}
use Rattle.scientific.proofs.exponent_ok.Goals as goal

pub returns : goal.returns
returns c = exponent_tests _ c.exponent_digits-digits.result.now c.begins.result c.begins-2.result c.digits_len.result c.begins.ensures c.begins-2.ensures c.exponent_digits-digits.ensures c.digits_len.ensures
