-- The readings passed fit.
use mathlib.Core.Path.{◌≡◌, refl}
use native.Mathlib.Numerals.{add-one}
use native.Mathlib.Omega.{arith}
use Rattle.machine.specs.Places.{all_below}
use Rattle.sheet.specs.Fits.{stored_fits}
use Rattle.sheet.proofs.readings_ok.Goals as goal

pub loop-j-init : goal.loop-j-init
unfolding all_below
loop-j-init c = refl

pub loop-j-preserved : goal.loop-j-preserved
unfolding all_below stored_fits
loop-j-preserved c = rw (add-one, c.loop-j.invariant, c.stored_ok-ok.ensures, c.from-n.ensures)

pub returns : goal.returns
unfolding stored_fits
returns c = let e : c.loop-j.j ≡ 32 = omega arith in rw (c.loop-j.invariant, e)
