-- The readings passed are those of a fresh device, the others are none.
use Prim.Native.Nat.{ℕ}
use mathlib.Core.Path.{◌≡◌}
use mathlib.Core.List.{◌++◌}
use lib.Dec.{ltb}
use lib.ListN.{drop, replicate}
use Rattle.machine.specs.declared.Sheet.{Sheet}
use Rattle.machine.specs.declared.Stored.{Stored}
use Rattle.machine.specs.Places.{tabulate}
use Rattle.machine.specs.Sheet.{sensor_of}
use Rattle.machine.specs.State.{no_stored, fresh_stored}
use Rattle.sheet.proofs.fresh_readings.Given as goal

-- the reading at a place of a fresh device
abbrev pub fresh_at : Sheet → ℕ → Stored
fresh_at sheet j = fresh_stored (ltb j sheet.count) (sensor_of sheet j).kind

abbrev pub invariant-loop-j : goal.invariant-loop-j
invariant-loop-j l = l.readings ≡ tabulate (fresh_at l.fn.sheet) l.j ++ drop l.j (replicate 32 no_stored)
