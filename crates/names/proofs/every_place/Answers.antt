-- The places passed are written, the others are zero.
use Prim.Native.Nat.{min}
use mathlib.Core.Path.{◌≡◌, refl, sym}
use native.Mathlib.Omega.{arith}
use lib.ListN.{replicate}
use Rattle.machine.specs.Places.{tabulate}
use Rattle.machine.proofs.PlacesLaws.{length-tabulate}
use Rattle.machine.proofs.StoreLaws.{filled_one}
use Rattle.names.proofs.ListingLaws.{listing_of}
use Rattle.names.proofs.every_place.Goals as goal

pub loop-j-init : goal.loop-j-init
unfolding tabulate
loop-j-init c = refl

pub loop-j-preserved : goal.loop-j-preserved
loop-j-preserved c = rw c.loop-j.invariant (filled_one (λ j. j) (replicate 32 0) c.loop-j.j (omega (arith, c.sensors_in-most.ensures)))

pub returns : goal.returns
returns c = let e : c.loop-j.j ≡ min c.args.count 32 = omega (arith, c.sensors_in-most.ensures) in
    rw (c.loop-j.invariant, e, c.sensors_in-most.ensures) (listing_of (min c.args.count 32) (tabulate (λ j. j) (min c.args.count 32)) (sym (length-tabulate (λ j. j) (min c.args.count 32))))
