-- No report, or those of the places: by the test that the code makes.
use mathlib.Core.Path.{sym, ◌∙◌}
use Rattle.message.proofs.DeliveryLaws.{none_sent, as_sent}
use Rattle.machine.proofs.TestLaws.{cond_true, cond_false}
use Rattle.request.proofs.tell_set.Goals as goal

pub returns-then-is_none : goal.returns-then-is_none
returns-then-is_none c = as_sent none_sent (sym (cond_true _ _ _ (sym c.is_none.ensures ∙ c.if-is_none.true)))

pub returns : goal.returns
returns c = as_sent c.tell_reports.ensures (sym (cond_false _ _ _ (sym c.is_none.ensures ∙ c.if-is_none.false)))
