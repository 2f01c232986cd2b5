-- By its half.
use Rattle.rules.specs.Keys.{choice_key}
use Rattle.rules.proofs.choice_key.Goals as goal

pub returns : goal.returns
unfolding choice_key
returns c = cc
