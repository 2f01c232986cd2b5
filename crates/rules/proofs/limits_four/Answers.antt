-- The tests are those of the definition, in another order.
use mathlib.Core.Path.{◌≡◌, refl}
use mathlib.Core.Bool.{Bool, true, false, ◌&&◌}
use lib.Dec.{eqb, leb}
use Rattle.machine.specs.Sheet.{limit_ok, limits_four}
use Rattle.rules.proofs.limits_four.Goals as goal

-- a, low and high are tests of the limits, b of the count
reordered : (b w n m x l o u : Bool) → (b && ((w && (n && l)) && ((m && (x && u)) && o))) ≡ (b && (n && (m && (w && (x && (l && (o && u)))))))
reordered false w n m x l o u = refl
reordered true false n m x l o u = by_two n m
  where
    by_two : (n m : Bool) → false ≡ (n && (m && false))
    by_two false m = refl
    by_two true false = refl
    by_two true true = refl
reordered true true false m x l o u = refl
reordered true true true m x false o u = by_two m x
  where
    by_two : (m x : Bool) → false ≡ (m && (x && false))
    by_two false x = refl
    by_two true false = refl
    by_two true true = refl
reordered true true true false x true o u = refl
reordered true true true true false true o u = refl
reordered true true true true true true false u = by_one u
  where
    by_one : (u : Bool) → (u && false) ≡ false
    by_one false = refl
    by_one true = refl
reordered true true true true true true true u = by_one u
  where
    by_one : (u : Bool) → (u && true) ≡ u
    by_one false = refl
    by_one true = refl

pub returns : goal.returns
unfolding limits_four
returns c = let kind = c.args.kind in let l = c.args.l in
    rw (c.ordered-lower.ensures, c.ordered-upper.ensures)
    (reordered (eqb l.count 4) (limit_ok kind l.warn_min) (limit_ok kind l.nominal_min) (limit_ok kind l.nominal_max) (limit_ok kind l.warn_max)
    (leb l.warn_min l.nominal_min) (leb l.nominal_min l.nominal_max) (leb l.nominal_max l.warn_max))
