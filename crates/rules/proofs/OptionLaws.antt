-- A sensor's options by their count, and the place of a sensor by its bounds.
use Prim.Native.Nat.{◌<◌}
use native.Mathlib.Omega.{arith}
use mathlib.Core.Path.{◌≡◌, refl, sym, ◌∙◌}
use mathlib.Core.Bool.{Bool, true, false, cond, not, ◌&&◌, and-true as and_right, and-false as and_no}
use lib.Dec.{eqb, leb}
use lib.ListN.{get_or}
use borrow.Author.Tests.{eqb-true, ne_eqb, lt-leb}
use Rattle.machine.specs.declared.Sensor.{Sensor}
use Rattle.machine.specs.Places.{all_below}
use Rattle.machine.specs.Sheet.{no_choice, text_ok, name_byte, printable, limits_none, limits_ok, choice_none, distinct, options_ok, sensor_ok, sensor_none}
use Rattle.machine.proofs.TestLaws.{cond_same, and_then}
use Rattle.rules.proofs.EmptyLaws.{no_more, no_choices}

-- no place holds an option
abbrev no_options : Sensor → Bool
no_options n = all_below (λ k. choice_none (get_or n.options k no_choice)) 8

-- of no options: not type 4, and no place holds one
pub options_none : (n : Sensor) → n.option_count ≡ 0 → (not (eqb n.kind 4) && no_options n) ≡ options_ok n
unfolding options_ok distinct all_below
options_none n e = rw (e, no_choices n.options) (go (eqb n.kind 4) (no_options n))
  where
    go : (t a : Bool) → (not t && a) ≡ (cond t false true && (a && true))
    go true a = refl
    go false a = sym (and_right a)

-- more than 8 options no type has
pub options_many : (n : Sensor) → 8 < n.option_count → false ≡ options_ok n
unfolding options_ok
options_many n l = rw (lt-leb n.option_count 8 l, ne_eqb n.option_count 0 (λ e. omega arith), and_no (leb 1 n.option_count), cond_same (eqb n.kind 4) false)

-- type 0, which no sensor has, has no options
options_untyped : (n : Sensor) → n.kind ≡ 0 → options_ok n ≡ (eqb n.option_count 0 && no_options n)
unfolding options_ok
options_untyped n z = go (eqb n.option_count 0) refl
  where
    go : (b : Bool) → eqb n.option_count 0 ≡ b → options_ok n ≡ (b && no_options n)
    go true e = sym (options_none n (eqb-true n.option_count 0 e)) ∙ rw z
    go false e = rw (z, e)

-- a place by the bounds of a sensor, or by those of none
pub sensor_at_lem : (there : Bool) (n : Sensor)
    → (text_ok (cond there 1 0) (cond there 32 0) name_byte n.name_len n.name
    && (text_ok 0 (cond there 64 0) printable n.description_len n.description
    && (text_ok 0 (cond there 8 0) printable n.units_len n.units
    && ((leb (cond there 1 0) n.kind && leb n.kind (cond there 5 0))
    && (cond there (limits_ok n.kind n.limits) (limits_none n.limits) && options_ok n))))) ≡ cond there (sensor_ok n) (sensor_none n)
unfolding sensor_ok sensor_none
sensor_at_lem true n = refl
sensor_at_lem false n =
    rw (no_more n.kind, and_then (eqb n.kind 0) (limits_none n.limits) (options_ok n) (eqb n.option_count 0 && no_options n) (λ e f. options_untyped n (eqb-true n.kind 0 e)))
