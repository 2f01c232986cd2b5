-- Below the count the pass has the bounds of an option; from there on those of none.
use Rattle.machine.specs.Sheet.{choice_ok}
use Rattle.rules.proofs.EmptyLaws.{choice_at_lem}
use Rattle.rules.proofs.choice_ok.Goals as goal

pub returns : goal.returns
unfolding choice_ok
returns c = rw (c.text_ok.ensures, c.bound.ensures, c.bound-2.ensures, c.from.ensures) (choice_at_lem _ c.args.o)
