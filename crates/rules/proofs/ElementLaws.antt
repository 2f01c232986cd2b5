-- The lengths of the arrays inside options and sensors, by what is known of an array of them.
use Prim.Native.Nat.{ℕ, zero, suc, ◌<◌}
use native.Mathlib.Omega.{arith}
use mathlib.Core.Path.{◌≡◌}
use mathlib.Core.List.{List, [], ◌∷◌}
use lib.ListN.{length, get_or}
use mir.Val.{Val}
use base.Fml.{Fml}
use denote.Array.{each, in_array}
use denote.Shadow.{shadow}
use denote.Struct.Declared as declared
use borrow.Author.Rules.{rules}
use Rattle.machine.specs.declared.Choice.{Choice}
use Rattle.machine.specs.declared.Sensor.{Sensor}
use Rattle.machine.specs.declared.Sheet.{Sheet}
use Rattle.machine.specs.Sheet.{no_choice, no_sensor, sensor_of}
use Rattle.rules.specs.Texts.{Whole}
use Rattle.machine.proofs.ArrayLaws.{options_many}
use Rattle.machine.specs.contracts.Choice.{the_type as choice-type}
use Rattle.machine.specs.contracts.Sensor.{the_type as sensor-type}
use Rattle.machine.specs.contracts.Sheet.{the_type as sheet-type}

-- what is known of each element, of the list or of what a field has for it
module _ (D : Type 0) (own : D → List Val → Fml) where
  element_at : (xs : List D) (us : List Val) (i : ℕ) (z : D) → shadow (each D own xs us) → i < length xs → (u : Val) × shadow (own (get_or xs i z) (u ∷ []))
  element_at [] us i z h l = absurd (omega arith)
  element_at (x ∷ xs) [] i z h l = absurd h
  element_at (x ∷ xs) (u ∷ us) zero z h l = (u, h.0)
  element_at (x ∷ xs) (u ∷ us) (suc i) z h l = element_at xs us i z h.1 (omega arith)

-- the texts of an array of options
pub choices_long : (os : List Choice) (vs : List Val) → shadow (in_array Choice (declared.row choice-type).own_val 8 os vs) → Whole os
choices_long os vs h k l =
    let e : length os ≡ 8 = h.1.0.1 in
    let g = element_at Choice (declared.row choice-type).own_val os h.0 k no_choice h.1.1 (omega arith) in
    search rules

-- the texts of the options of a sensor
pub options_long : (n : Sensor) (vs : List Val) → shadow ((declared.row sensor-type).own_val n vs) → Whole n.options
options_long n vs h k l =
    let f = h.1.1.1.1.1.1.1.1.1.1.1.0 in
    let e = options_many n vs h in
    let g = element_at Choice (declared.row choice-type).own_val n.options f.0 k no_choice f.1.1 (omega arith) in
    search rules

-- the names of a sheet's sensors
pub names_long : (sheet : Sheet) (vs : List Val) → shadow ((declared.row sheet-type).own_val sheet vs) → (j : ℕ) → j < 32 → length (sensor_of sheet j).name ≡ 32
names_long sheet vs h j l =
    let f = h.1.1.1.1.1.1.1.1.0 in
    let e : length sheet.sensors ≡ 32 = f.1.0.1 in
    let g = element_at Sensor (declared.row sensor-type).own_val sheet.sensors f.0 j no_sensor f.1.1 (omega arith) in
    search rules
