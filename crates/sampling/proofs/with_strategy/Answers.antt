-- By the test.
use mathlib.Core.Path.{sym, ◌∙◌}
use Rattle.machine.specs.Requests.{sampled}
use Rattle.machine.proofs.RangeLaws.{none_is}
use Rattle.sampling.proofs.with_strategy.Goals as goal

pub returns-then-is_none : goal.returns-then-is_none
unfolding sampled
returns-then-is_none c = let none = sym c.is_none.ensures ∙ c.if-is_none.true in
    rw (none, none_is c.args.chosen none)

pub returns : goal.returns
unfolding sampled
returns c = rw (sym c.is_none.ensures ∙ c.if-is_none.false)
