-- The calls' facts in a chain.
use Rattle.output.specs.Number.{whole_difference}
use Rattle.output.proofs.put_whole_difference.Goals as goal

pub returns : goal.returns
unfolding whole_difference
returns c = c.put_decimal.ensures
