-- The subscriptions passed fit.
use mathlib.Core.Path.{◌≡◌, refl}
use native.Mathlib.Numerals.{add-one}
use native.Mathlib.Omega.{arith}
use Rattle.machine.specs.Places.{all_below}
use Rattle.sheet.specs.Fits.{pair_fits}
use Rattle.sheet.proofs.pairs_ok.Goals as goal

pub loop-p-init : goal.loop-p-init
unfolding all_below
loop-p-init c = refl

pub loop-p-preserved : goal.loop-p-preserved
unfolding all_below pair_fits
loop-p-preserved c = rw (add-one, c.loop-p.invariant, c.pair_ok-ok.ensures, c.from-n.ensures)

pub returns : goal.returns
unfolding pair_fits
returns c = let e : c.loop-p.p ≡ 256 = omega arith in rw (c.loop-p.invariant, e)
