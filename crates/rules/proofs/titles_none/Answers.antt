-- The tests of the two texts are those of the definition.
use Rattle.machine.specs.Sheet.{titles_none}
use Rattle.rules.proofs.titles_none.Goals as goal

pub returns : goal.returns
unfolding titles_none
returns c = rw (c.text_ok-first.ensures, c.text_ok-second.ensures)
