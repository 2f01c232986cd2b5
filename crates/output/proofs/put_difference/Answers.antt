-- The calls' facts in a chain.
use Rattle.output.specs.Number.{difference}
use Rattle.output.proofs.put_difference.Goals as goal

pub returns : goal.returns
unfolding difference
returns c = c.put_fixed.ensures
