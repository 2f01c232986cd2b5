-- By the profile.
use mathlib.Core.Path.{sym, ◌∙◌}
use Rattle.machine.proofs.last_client.Goals as goal

pub returns-then-is_single : goal.returns-then-is_single
returns-then-is_single c = rw (sym c.is_single.ensures ∙ c.if-is_single.true)

pub returns-else-is_single : goal.returns-else-is_single
returns-else-is_single c = rw (sym c.is_single.ensures ∙ c.if-is_single.false)
