-- A report settles which of the two tests can hold; the calls say the rest of it.
use Rattle.machine.specs.Range.{pair_none}
use Rattle.sheet.specs.Fits.{reported_fits}
use Rattle.sheet.proofs.FitsLaws.{or_never}
use Rattle.sheet.proofs.pair_ok.Goals as goal

pub returns-then-p : goal.returns-then-p
unfolding pair_none reported_fits
returns-then-p c = rw (c.if-p.true, c.strategy_ok.ensures, c.sample_ok-held.ensures)

pub returns : goal.returns
unfolding pair_none reported_fits
returns c = rw (c.if-p.false, c.is_none.ensures, c.sample_none.ensures) (or_never _ c.args.there)
