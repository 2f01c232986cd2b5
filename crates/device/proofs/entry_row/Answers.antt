-- The row by its test.
use Rattle.machine.specs.Declined.{entry_fits}
use Rattle.device.proofs.entry_row.Goals as goal

pub returns-then-level-named : goal.returns-then-level-named
unfolding entry_fits
returns-then-level-named c = rw (rw (c.text_fits-named.ensures, c.text_fits-plain.ensures) at c.if-level-named.true)

pub returns-else-level-named : goal.returns-else-level-named
unfolding entry_fits
returns-else-level-named c = rw (rw (c.text_fits-named.ensures, c.text_fits-plain.ensures) at c.if-level-named.false)
