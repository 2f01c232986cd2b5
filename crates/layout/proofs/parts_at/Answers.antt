-- The parts read so far stand at the start, and the rest is read behind them.
use native.Mathlib.Omega.{arith}
use Rattle.layout.proofs.ManyLaws.{begun, fault, more, all_read}
use Rattle.layout.proofs.parts_at.Goals as goal

pub loop-k-init : goal.loop-k-init
loop-k-init g c = begun

pub returns-in_err-part : goal.returns-in_err-part
returns-in_err-part g c = rw c.from_residual.ensures (fault c.loop-k.invariant (omega arith) c.in_err-part.ensures)

pub loop-k-preserved : goal.loop-k-preserved
loop-k-preserved g c = more c.loop-k.invariant (omega arith) (omega arith) c.in_ok-part.ensures

pub returns : goal.returns
returns g c = all_read c.loop-k.invariant (omega arith) (omega arith)
