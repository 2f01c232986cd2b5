-- What the machine has after each cast.
use mathlib.Core.Path.{sym, ap, subst}
use lib.Dec.{T}
use lib.IntN.{ℤ, nat_abs}
use lib.Signed.{non_neg}
use mir.Syntax.{w64}
use mir.Val.{Fits}
use Rattle.value.proofs.SignedLaws.{cast_fits, sum_fits, stored_is, stored_fits_lem}
use Rattle.value.proofs.biased_integer.Goals as goal

pub overflow_cast-result : goal.overflow_cast-result
overflow_cast-result c = cast_fits c.args.x c.ranges.x

pub overflow_add-result : goal.overflow_add-result
overflow_add-result c = sum_fits c.args.x c.ranges.x

pub overflow_cast-result-2 : goal.overflow_cast-result-2
overflow_cast-result-2 c = subst (λ (k : ℤ). T (non_neg k) × Fits w64 (nat_abs k)) (sym (stored_is c.args.x c.ranges.x)) (stored_fits_lem c.args.x c.ranges.x)

pub returns : goal.returns
returns c = ap nat_abs (stored_is c.args.x c.ranges.x)
