-- Bits above those of an infinity, the sign's taken off, are a NaN's.
use Rattle.std.proofs.lemmas.Float.{not_nan_f64_bits}
use Rattle.in_hex.proofs.DoubleLaws.{above}
use Rattle.in_hex.proofs.double_of.Goals as goal

pub returns-then-bits-gt9218868437227405312 : goal.returns-then-bits-gt9218868437227405312
returns-then-bits-gt9218868437227405312 c = above _ c.if-bits-gt9218868437227405312.true

pub float_from_bits-result : goal.float_from_bits-result
float_from_bits-result c = not_nan_f64_bits c.args.bits c.if-bits-gt9218868437227405312.false
