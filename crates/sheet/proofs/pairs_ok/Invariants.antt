-- The subscriptions passed fit.
use mathlib.Core.Bool.{true}
use mathlib.Core.Path.{◌≡◌}
use Rattle.machine.specs.Places.{all_below}
use Rattle.sheet.specs.Fits.{pair_fits}
use Rattle.sheet.proofs.pairs_ok.Given as goal

abbrev pub invariant-loop-p : goal.invariant-loop-p
invariant-loop-p l = l.ok ≡ all_below (pair_fits l.count l.clock (record { ok = true; kinds = l.kinds; options = l.options }) l.clients l.fn.pairs) l.p
