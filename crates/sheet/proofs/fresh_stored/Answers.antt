-- Where there is a sensor, `invalid_sample` gives its sample; else `no_stored` gives the whole.
use Rattle.sheet.proofs.fresh_stored.Goals as goal

pub returns-then-there : goal.returns-then-there
returns-then-there c = rw (c.if-there.true, c.invalid_sample.ensures)
