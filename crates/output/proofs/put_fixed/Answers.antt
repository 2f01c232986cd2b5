-- The calls' facts in a chain.
use native.Mathlib.Omega.{arith}
use native.Mathlib.Nat.{mod-lt}
use Rattle.output.specs.Number.{fixed}
use Rattle.output.proofs.OutputLaws.{then}
use Rattle.output.proofs.put_fixed.Goals as goal

pub put_fraction-requires : goal.put_fraction-requires
put_fraction-requires c = (mod-lt _ (omega arith), omega arith)

pub returns : goal.returns
unfolding fixed
returns c = then c.put_decimal-p.ensures (then c.put_byte-p.ensures c.put_fraction.ensures)
