-- The readings passed are those of a fresh device, the others are none.
use mathlib.Core.Path.{◌≡◌, refl}
use native.Mathlib.Omega.{arith}
use lib.ListN.{replicate}
use Rattle.machine.specs.Places.{tabulate}
use Rattle.machine.specs.State.{no_stored, fresh_readings}
use Rattle.machine.proofs.StoreLaws.{filled_one, filled_all}
use Rattle.sheet.proofs.fresh_readings.Invariants.{fresh_at}
use Rattle.sheet.proofs.fresh_readings.Goals as goal

pub loop-j-init : goal.loop-j-init
unfolding tabulate
loop-j-init c = rw c.no_stored-readings.ensures

pub loop-j-preserved : goal.loop-j-preserved
loop-j-preserved c =
    rw (c.loop-j.invariant, c.fresh_stored.ensures, c.from-count.ensures)
    (filled_one (fresh_at c.args.sheet) (replicate 32 no_stored) c.loop-j.j (omega arith))

pub returns : goal.returns
unfolding fresh_readings
returns c = let e : c.loop-j.j ≡ 32 = omega arith in
    rw (c.loop-j.invariant, e) (filled_all (fresh_at c.args.sheet) (replicate 32 no_stored) 32 refl)
