-- What is found is the test of each place passed, of 8 in the end.
use native.Mathlib.Numerals.{add-one}
use native.Mathlib.Omega.{arith}
use mathlib.Core.Path.{◌≡◌, refl}
use Rattle.machine.specs.Places.{all_below}
use Rattle.rules.proofs.choices_none.Goals as goal

pub loop-k-init : goal.loop-k-init
unfolding all_below
loop-k-init c = refl

pub loop-k-preserved : goal.loop-k-preserved
unfolding all_below
loop-k-preserved c = rw (add-one, c.loop-k.invariant, c.choice_none-ok.ensures)

pub returns : goal.returns
returns c = let e : c.loop-k.k ≡ 8 = omega arith in rw (c.loop-k.invariant, e)
