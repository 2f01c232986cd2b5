-- The four bytes are below 256 each.
use native.Mathlib.Omega.{arith}
use Rattle.rules.specs.Keys.{quarter_at}
use Rattle.rules.proofs.quarter.Goals as goal

pub returns : goal.returns
unfolding quarter_at
returns c = (omega (arith, c.from_le_bytes.ensures), omega arith)
