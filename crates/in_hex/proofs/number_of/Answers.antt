-- i digits make less than 16^i, and 15 of them leave room for one more.
use native.Mathlib.Omega.{arith}
use Rattle.in_hex.proofs.HexLaws.{below_15}
use Rattle.in_hex.proofs.number_of.Goals as goal

pub overflow_mul-n : goal.overflow_mul-n
overflow_mul-n c = omega (arith, below_15 c.loop-b.n c.loop-b.b-index c.loop-b.invariant.0 (omega arith))

pub overflow_add-n : goal.overflow_add-n
overflow_add-n c = omega (arith, below_15 c.loop-b.n c.loop-b.b-index c.loop-b.invariant.0 (omega arith))
