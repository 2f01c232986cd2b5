-- The readings passed fit.
use mathlib.Core.Bool.{true}
use mathlib.Core.Path.{◌≡◌}
use Rattle.machine.specs.Places.{all_below}
use Rattle.sheet.specs.Fits.{stored_fits}
use Rattle.sheet.proofs.readings_ok.Given as goal

abbrev pub invariant-loop-j : goal.invariant-loop-j
invariant-loop-j l = l.ok ≡ all_below (stored_fits l.count l.clock (record { ok = true; kinds = l.kinds; options = l.options }) l.fn.stored) l.j
