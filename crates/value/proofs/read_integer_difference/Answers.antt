-- The whole number that was read, in millionths.
use mathlib.Core.Path.{sym, ◌∙◌}
use native.Mathlib.Omega.{arith}
use Rattle.value.proofs.DecimalLaws.{answer_below, in_millionths}
use Rattle.value.proofs.read_integer_difference.Goals as goal

pub returns-in_err-n : goal.returns-in_err-n
returns-in_err-n c = c.from_residual.ensures ∙ in_millionths _ c.args.t.now (sym c.in_err-n.was ∙ c.read_decimal.ensures)

pub overflow_mul-result : goal.overflow_mul-result
overflow_mul-result c = omega (arith, answer_below 0 0 4294967295 (c.args.t.now) c.in_ok-n.n (sym c.in_ok-n.was ∙ c.read_decimal.ensures))

pub returns : goal.returns
returns c = in_millionths _ c.args.t.now (sym c.in_ok-n.was ∙ c.read_decimal.ensures)
