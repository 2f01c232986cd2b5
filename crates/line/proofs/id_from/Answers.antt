-- A digit is no less than `0`.
use mathlib.Core.Path.{sym, ◌∙◌}
use native.Mathlib.Omega.{arith}
use lib.ListN.{get_or}
use Rattle.output.proofs.TextLaws.{digit_range}
use Rattle.line.proofs.id_from.Goals as goal

pub overflow_sub-b : goal.overflow_sub-b
overflow_sub-b c = omega (arith, digit_range (get_or c.loop-left.left.now 0 0) (sym c.is_digit.ensures ∙ c.if-not-is_digit.false))
