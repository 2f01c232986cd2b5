-- The blank state with the number.
use Rattle.sheet.proofs.not_opened.Goals as goal

pub returns : goal.returns
returns c = rw (c.number.ensures, c.blank_state.ensures)
