-- No numbers, two or four, by the count.
use mathlib.Core.List.{[], ◌∷◌}
use borrow.Author.Tests.{eq-eqb, ne_eqb}
use Rattle.output.proofs.OutputLaws.{blank}
use Rattle.machine.specs.Messages.{limit_numbers}
use Rattle.replies.proofs.LineLaws.{args_then}
use Rattle.replies.proofs.put_args_limits.Goals as goal

pub returns-then-limits-eq0 : goal.returns-then-limits-eq0
unfolding limit_numbers
returns-then-limits-eq0 c = rw (eq-eqb _ _ c.if-limits-eq0.true) blank

pub returns-then-limits-eq2 : goal.returns-then-limits-eq2
unfolding limit_numbers
returns-then-limits-eq2 c = rw (ne_eqb _ _ c.if-limits-eq0.false, eq-eqb _ _ c.if-limits-eq2.true) c.put_args_range-p.ensures

pub returns : goal.returns
unfolding limit_numbers
returns c = rw (ne_eqb _ _ c.if-limits-eq0.false, ne_eqb _ _ c.if-limits-eq2.false) (args_then (_ ∷ _ ∷ []) (_ ∷ _ ∷ []) c.put_args_range-p.ensures c.put_args_range.ensures)
