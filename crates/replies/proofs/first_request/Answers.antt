-- By the profile.
use mathlib.Core.Path.{sym, ◌∙◌}
use Rattle.replies.proofs.first_request.Goals as goal

pub returns-then-is_single : goal.returns-then-is_single
returns-then-is_single c = rw (sym c.is_single.ensures ∙ c.if-is_single.true)

pub returns : goal.returns
returns c = rw (sym c.is_single.ensures ∙ c.if-is_single.false)
