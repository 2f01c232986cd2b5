-- The version by the profile.
use mathlib.Core.Path.{sym, ◌∙◌}
use Rattle.informs.proofs.deliver_protocol.Goals as goal

pub returns-then-is_single : goal.returns-then-is_single
returns-then-is_single c = rw (sym c.is_single.ensures ∙ c.if-is_single.true) c.deliver.ensures

pub returns : goal.returns
returns c = rw (sym c.is_single.ensures ∙ c.if-is_single.false) c.deliver-2.ensures
