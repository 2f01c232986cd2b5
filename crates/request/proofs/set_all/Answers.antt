-- The invariant: the first k places are set.
use Prim.Native.Nat.{◌<◌}
use lib.ListN.{get_or}
use Rattle.machine.proofs.ArrayLaws.{subscriptions_many}
use Rattle.request.proofs.PassLaws.{each_at}
use Rattle.request.proofs.SetLaws.{set-none, set_on}
use Rattle.request.proofs.set_all.Goals as goal

pub loop-place-init : goal.loop-place-init
loop-place-init c = set-none _ _ _ _ (subscriptions_many c.args.s _ c.well_formed.0)

pub loop-place-preserved : goal.loop-place-preserved
loop-place-preserved c = let place : get_or c.args.places.now c.loop-place.place-index 0 < 32 = each_at (λ j. j < 32) c.args.places.now c.loop-place.place-index c.requires.1 c.loop-place-test.true in
    let turn = c.loop-place in
    set_on _ _ _ _ turn.place-index c.loop-place-test.true c.requires.0 place turn.invariant c.with_strategy.ensures
