-- The three ways are those of the definition.
use Rattle.machine.specs.Sheet.{limits_none, limits_ok}
use Rattle.rules.proofs.limits_ok.Goals as goal

pub returns : goal.returns
unfolding limits_ok limits_none
returns c = rw (c.eq-none.ensures, c.limits_two-two.ensures, c.limits_four-four.ensures, c.is_measured.ensures)
