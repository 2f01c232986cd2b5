-- The profile, what was read of the bytes, and whether they end there and the fresh state is in range, decide as `opened` does.
use mathlib.Core.Path.{sym, ◌∙◌}
use Rattle.sheet.proofs.OpenLaws.{open_neither, open_broken, open_good, open_faulty}
use Rattle.sheet.proofs.open.Goals as goal

pub returns-then-profile-gt1 : goal.returns-then-profile-gt1
returns-then-profile-gt1 c = c.not_opened.ensures ∙ sym (open_neither _ _ c.if-profile-gt1.true)

pub returns-in_default : goal.returns-in_default
returns-in_default c = c.not_opened-in_default.ensures ∙ sym (open_broken _ _ c.if-profile-gt1.false c.in_default.ensures)

pub returns-then-ended-in_range : goal.returns-then-ended-in_range
returns-then-ended-in_range c = sym (open_good _ _ c.if-profile-gt1.false c.in-Some.ensures c.fresh_state-state.ensures c.in_range.ensures (cc))

pub returns : goal.returns
returns c = c.not_opened-2.ensures ∙ sym (open_faulty _ _ c.if-profile-gt1.false c.in-Some.ensures c.fresh_state-state.ensures c.in_range.ensures (cc))
