-- None of the clients passed is connected from the first on.
use mathlib.Core.Path.{◌≡◌, refl}
use native.Mathlib.Numerals.{add-one}
use native.Mathlib.Omega.{arith}
use Rattle.machine.specs.Places.{all_below}
use Rattle.sheet.proofs.none_from.Goals as goal

pub loop-c-init : goal.loop-c-init
unfolding all_below
loop-c-init c = refl

pub loop-c-preserved : goal.loop-c-preserved
unfolding all_below
loop-c-preserved c = rw (add-one, c.loop-c.invariant)

pub returns : goal.returns
returns c = let e : c.loop-c.c ≡ 8 = omega arith in rw (c.loop-c.invariant, e)
