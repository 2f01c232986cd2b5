-- The four quarters are below 2^32 each.
use native.Mathlib.Omega.{arith}
use Rattle.rules.specs.Keys.{half_key}
use Rattle.rules.proofs.half_key.Goals as goal

pub returns : goal.returns
unfolding half_key
returns c = (cc, omega arith)
