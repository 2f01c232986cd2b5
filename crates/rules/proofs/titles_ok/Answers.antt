-- The tests of the two texts are those of the definition.
use Rattle.machine.specs.Sheet.{titles_ok}
use Rattle.rules.proofs.titles_ok.Goals as goal

pub returns : goal.returns
unfolding titles_ok
returns c = rw (c.text_ok-first.ensures, c.text_ok-second.ensures)
