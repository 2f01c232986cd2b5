-- By the check.
use mathlib.Core.Path.{sym, ◌∙◌}
use Rattle.bench.proofs.judged.Goals as goal

pub returns-then-in_range : goal.returns-then-in_range
returns-then-in_range c = rw (sym c.in_range.ensures ∙ c.if-in_range.true)

pub returns-else-in_range : goal.returns-else-in_range
returns-else-in_range c = rw (sym c.in_range.ensures ∙ c.if-in_range.false)
