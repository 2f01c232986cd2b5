-- The row by its test.
use mathlib.Core.Path.{sym, ◌∙◌}
use Rattle.machine.specs.Declined.{address_fits}
use Rattle.device.proofs.address_row.Goals as goal

pub returns-then-text_fits : goal.returns-then-text_fits
unfolding address_fits
returns-then-text_fits c = rw (sym c.text_fits.ensures ∙ c.if-text_fits.true)

pub returns-else-text_fits : goal.returns-else-text_fits
unfolding address_fits
returns-else-text_fits c = rw (sym c.text_fits.ensures ∙ c.if-text_fits.false)
