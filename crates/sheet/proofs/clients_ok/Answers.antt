-- The clients passed are in range.
use mathlib.Core.Path.{◌≡◌, refl}
use native.Mathlib.Numerals.{add-one}
use native.Mathlib.Omega.{arith}
use Rattle.machine.specs.Places.{all_below}
use Rattle.sheet.proofs.clients_ok.Goals as goal

pub loop-client-init : goal.loop-client-init
unfolding all_below
loop-client-init c = refl

pub loop-client-preserved : goal.loop-client-preserved
unfolding all_below
loop-client-preserved c = rw (add-one, c.loop-client.invariant, c.client_ok-ok.ensures)

pub returns : goal.returns
returns c = let e : c.loop-client.client-index ≡ 8 = omega arith in rw (c.loop-client.invariant, e)
