-- The sheet of a state in range: its sensors, and their names.
use Prim.Native.Nat.{ℕ, ◌≤◌, ◌<◌}
use native.Mathlib.Omega.{arith}
use mathlib.Core.Path.{◌≡◌, refl, ap, sym, ◌∙◌}
use mathlib.Core.Bool.{Bool, true, false, cond, not, ◌&&◌, true≢false}
use mathlib.Core.List.{List}
use lib.Dec.{eqb, leb, ltb}
use lib.ListN.{get_or, take, drop}
use borrow.Author.Tests.{ltb-true, ltb-false, leb-true, leb-false, lt-ltb, eqb-true, eq-eqb, not-true}
use Rattle.output.specs.Text.{same, all}
use Rattle.output.proofs.TextLaws.{same_refl, same_true}
use Rattle.value.specs.Reading.{is_measured}
use Rattle.machine.specs.declared.Choice.{Choice}
use Rattle.machine.specs.declared.Sensor.{Sensor}
use Rattle.machine.specs.declared.Sheet.{Sheet}
use Rattle.machine.specs.Places.{any, all_below, twice, Each}
use Rattle.machine.specs.Sheet.{no_choice, sensor_of, name_of, option_of, place_of, not_on_sheet, distinct, text_ok, name_byte, printable, zero_byte, sensor_ok, sensor_none, sensor_ok_at, sensors_ok, limits_ok, choice_none, choice_ok, options_ok}
use Rattle.machine.specs.Declined.{places_declined}
use Rattle.machine.proofs.TestLaws.{and_true, or_true, cond_true, passed}
use Rattle.machine.proofs.PlacesLaws.{below_at, first_is, first_holds, each_weaker, each_any_false}

-- a measured type is 1 or 2
pub measured_most : (t : ℕ) → is_measured t ≡ true → t ≤ 2
unfolding is_measured
measured_most t h = or_true _ (eqb t 1) (eqb t 2) h (λ e. omega (arith, eqb-true t 1 e)) (λ e. omega (arith, eqb-true t 2 e))

-- a text's bounds and bytes
pub record Text (least most : ℕ) (is : ℕ → Bool) (len : ℕ) (bytes : List ℕ) : Type 0 where
  pub long : least ≤ len
  pub short : len ≤ most
  pub bytes_are : all is (take len bytes) ≡ true
  pub rest_zero : all zero_byte (drop len bytes) ≡ true

pub text_out : (least most : ℕ) (is : ℕ → Bool) (len : ℕ) (bytes : List ℕ) → text_ok least most is len bytes ≡ true → Text least most is len bytes
unfolding text_ok
text_out least most is len bytes h =
    let a = and_true (leb least len) (leb len most && (all is (take len bytes) && all zero_byte (drop len bytes))) h in
    let b = and_true (leb len most) (all is (take len bytes) && all zero_byte (drop len bytes)) a.1 in
    let c = and_true (all is (take len bytes)) (all zero_byte (drop len bytes)) b.1 in
    record { long = leb-true least len a.0; short = leb-true len most b.0; bytes_are = c.0; rest_zero = c.1 }

-- texts that are distinct by place
pub distinct_out : (text : ℕ → List ℕ) (n i j : ℕ) → distinct text n ≡ true → i < n → j < n → text i ≡ text j → i ≡ j
unfolding distinct
distinct_out text n i j h hi hj e = go (ltb i j) (ltb j i) refl refl
  where
    apart : (i j : ℕ) → i < j → j < n → text i ≡ text j → ⊥
    apart i j l k e = true≢false (sym (same_refl (text j)) ∙ (ap (λ t. same t (text j)) (sym e)
        ∙ not-true (same (text i) (text j)) (below_at (λ i. not (same (text i) (text j))) j i (below_at (λ j. all_below (λ i. not (same (text i) (text j))) j) n j h k) l)))

    go : (b c : Bool) → ltb i j ≡ b → ltb j i ≡ c → i ≡ j
    go true c p q = absurd (apart i j (ltb-true i j p) hj e)
    go false true p q = absurd (apart j i (ltb-true j i q) hi (sym e))
    go false false p q = omega (arith, ltb-false i j p, ltb-false j i q)

-- a sensor's options
pub record Options (n : Sensor) : Type 0 where
  pub few : n.option_count ≤ 8
  pub some : n.kind ≡ 4 → 1 ≤ n.option_count
  pub option_is : (k : ℕ) → k < n.option_count → Text 1 16 name_byte (get_or n.options k no_choice).len (get_or n.options k no_choice).text
  pub options_differ : (i k : ℕ) → i < n.option_count → k < n.option_count → option_of n i ≡ option_of n k → i ≡ k

options_out : (n : Sensor) → options_ok n ≡ true → Options n
unfolding options_ok choice_ok
options_out n h = record {
  few = many.0;
  some = many.1;
  option_is = λ k l. text_out 1 16 name_byte (o k).len (o k).text
      (sym (cond_true (ltb k n.option_count) (text_ok 1 16 name_byte (o k).len (o k).text) (choice_none (o k)) (lt-ltb k n.option_count l)) ∙ below_at choice_at_lem 8 k b.0 (omega (arith, many.0)));
  options_differ = λ i k. distinct_out (option_of n) n.option_count i k b.1;
}
  where
    o : ℕ → Choice
    o k = get_or n.options k no_choice

    choice_at_lem : ℕ → Bool
    choice_at_lem k = choice_ok n.option_count k (o k)

    counted : Bool → Bool
    counted t = cond t (leb 1 n.option_count && leb n.option_count 8) (eqb n.option_count 0)

    a : (counted (eqb n.kind 4) ≡ true) × (all_below choice_at_lem 8 && distinct (option_of n) n.option_count ≡ true)
    a = and_true (counted (eqb n.kind 4)) _ h

    b : (all_below choice_at_lem 8 ≡ true) × (distinct (option_of n) n.option_count ≡ true)
    b = and_true (all_below choice_at_lem 8) _ a.1

    by_kind : (t : Bool) → eqb n.kind 4 ≡ t → counted t ≡ true → (n.option_count ≤ 8) × (n.kind ≡ 4 → 1 ≤ n.option_count)
    by_kind true e k = let q = and_true (leb 1 n.option_count) (leb n.option_count 8) k in (leb-true n.option_count 8 q.1, λ f. leb-true 1 n.option_count q.0)
    by_kind false e k = (omega (arith, eqb-true n.option_count 0 k), λ f. absurd (true≢false (sym (eq-eqb n.kind 4 f) ∙ e)))

    many : (n.option_count ≤ 8) × (n.kind ≡ 4 → 1 ≤ n.option_count)
    many = by_kind (eqb n.kind 4) refl a.0

-- a sensor's rules
pub record SensorRules (n : Sensor) : Type 0 where
  pub name_is : Text 1 32 name_byte n.name_len n.name
  pub description_is : Text 0 64 printable n.description_len n.description
  pub units_is : Text 0 8 printable n.units_len n.units
  pub kind_least : 1 ≤ n.kind
  pub kind_most : n.kind ≤ 5
  pub limits_are : limits_ok n.kind n.limits ≡ true
  pub options_are : Options n

pub sensor_out : (n : Sensor) → sensor_ok n ≡ true → SensorRules n
unfolding sensor_ok
sensor_out n h =
    let a = and_true (text_ok 1 32 name_byte n.name_len n.name) _ h in
    let b = and_true (text_ok 0 64 printable n.description_len n.description) _ a.1 in
    let c = and_true (text_ok 0 8 printable n.units_len n.units) _ b.1 in
    let d = and_true (leb 1 n.kind && leb n.kind 5) _ c.1 in
    let e = and_true (leb 1 n.kind) (leb n.kind 5) d.0 in
    let f = and_true (limits_ok n.kind n.limits) (options_ok n) d.1 in
    record {
      name_is = text_out 1 32 name_byte n.name_len n.name a.0;
      description_is = text_out 0 64 printable n.description_len n.description b.0;
      units_is = text_out 0 8 printable n.units_len n.units c.0;
      kind_least = leb-true 1 n.kind e.0;
      kind_most = leb-true n.kind 5 e.1;
      limits_are = f.0;
      options_are = options_out n f.1;
    }

-- the rules for all sensors
pub record Sensors (sheet : Sheet) : Type 0 where
  pub count_most : sheet.count ≤ 32
  pub sensor_is : (j : ℕ) → j < sheet.count → SensorRules (sensor_of sheet j)
  pub names_differ : (i j : ℕ) → i < sheet.count → j < sheet.count → name_of (sensor_of sheet i) ≡ name_of (sensor_of sheet j) → i ≡ j

pub sensors_out : (sheet : Sheet) → sensors_ok sheet ≡ true → Sensors sheet
unfolding sensors_ok
sensors_out sheet h = record {
  count_most = leb-true sheet.count 32 a.0;
  sensor_is = λ j k. sensor_out (sensor_of sheet j) (there j k (lt-ltb j sheet.count k) (below_at (sensor_ok_at sheet) 32 j b.0 (omega (arith, leb-true sheet.count 32 a.0))));
  names_differ = λ i j. distinct_out (λ j. name_of (sensor_of sheet j)) sheet.count i j b.1;
}
  where
    a : (leb sheet.count 32 ≡ true) × (all_below (sensor_ok_at sheet) 32 && distinct (λ j. name_of (sensor_of sheet j)) sheet.count ≡ true)
    a = and_true (leb sheet.count 32) _ h

    b : (all_below (sensor_ok_at sheet) 32 ≡ true) × (distinct (λ j. name_of (sensor_of sheet j)) sheet.count ≡ true)
    b = and_true (all_below (sensor_ok_at sheet) 32) _ a.1

    there : (j : ℕ) → j < sheet.count → ltb j sheet.count ≡ true → sensor_ok_at sheet j ≡ true → sensor_ok (sensor_of sheet j) ≡ true
    there j k e t = sym (cond_true (ltb j sheet.count) (sensor_ok (sensor_of sheet j)) (sensor_none (sensor_of sheet j)) e) ∙ t

-- a sensor is found by its name
pub place_of_name : (sheet : Sheet) → Sensors sheet → (j : ℕ) → j < sheet.count → place_of sheet (name_of (sensor_of sheet j)) ≡ j
unfolding place_of
place_of_name sheet r j h = first_is (λ i. same (name_of (sensor_of sheet i)) (name_of (sensor_of sheet j))) sheet.count j h (same_refl (name_of (sensor_of sheet j)))
    (λ i k e. r.names_differ i j k h (same_true (name_of (sensor_of sheet i)) (name_of (sensor_of sheet j)) e))

-- a name that is found is that of the sensor there
pub name_of_place : (sheet : Sheet) (name : List ℕ) → place_of sheet name < sheet.count → name_of (sensor_of sheet (place_of sheet name)) ≡ name
unfolding place_of
name_of_place sheet name h = same_true _ name (first_holds (λ i. same (name_of (sensor_of sheet i)) name) sheet.count h)

-- places that the rows 16 and 21 let through, and the rows behind these
pub places_passed : (sheet : Sheet) (js : List ℕ) (rest : ℕ) → places_declined sheet js rest ≡ 0 → (any (not_on_sheet sheet) js ≡ false) × ((twice js ≡ false) × (rest ≡ 0))
places_passed sheet js rest e = let a = passed (any (not_on_sheet sheet) js) 16 _ (omega arith) e in (a.0, passed (twice js) 21 rest (omega arith) a.1)

-- places of which none is off the sheet
pub places_below : (sheet : Sheet) (js : List ℕ) → any (not_on_sheet sheet) js ≡ false → Each (λ j. j < sheet.count) js
places_below sheet js h = each_weaker (λ j. not_on_sheet sheet j ≡ false) (λ j. j < sheet.count) (λ j. leb-false sheet.count j) js (each_any_false (not_on_sheet sheet) js h)
