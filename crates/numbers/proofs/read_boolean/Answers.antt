-- A decimal that is 0 or 1.
use mathlib.Core.Path.{sym, ◌∙◌}
use Rattle.numbers.proofs.NumberLaws as number
use Rattle.numbers.proofs.read_boolean.Goals as goal

pub returns-in_err-n : goal.returns-in_err-n
returns-in_err-n c = c.from_residual.ensures ∙ sym (number.no_boolean c.args.t.now (sym c.in_err-n.ensures))

pub returns : goal.returns
returns c = c.then_some.ensures ∙ sym (number.boolean c.args.t.now c.in_ok-n.n (sym c.in_ok-n.ensures))
