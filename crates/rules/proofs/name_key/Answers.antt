-- By its halves.
use Rattle.rules.specs.Keys.{name_key}
use Rattle.rules.proofs.name_key.Goals as goal

pub returns : goal.returns
unfolding name_key
returns c = cc
