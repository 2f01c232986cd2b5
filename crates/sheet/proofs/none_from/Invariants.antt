-- None of the clients passed is connected from the first on.
use mathlib.Core.Path.{◌≡◌}
use Rattle.machine.specs.Places.{all_below}
use Rattle.sheet.specs.Fits.{absent_from}
use Rattle.sheet.proofs.none_from.Given as goal

abbrev pub invariant-loop-c : goal.invariant-loop-c
invariant-loop-c l = l.ok ≡ all_below (absent_from l.first l.fn.clients) l.c
