-- Options and names that keep their rules: the pass over pairs of places says that they are distinct.
use Prim.Native.Nat.{ℕ, ◌<◌, ◌≤◌, min}
use native.Mathlib.Omega.{arith}
use mathlib.Core.Path.{◌≡◌, refl, sym, ◌∙◌}
use mathlib.Core.Bool.{Bool, true, false, cond, ◌&&◌, and-true as and_right}
use lib.Dec.{eqb, leb, ltb}
use lib.ListN.{length, get_or}
use borrow.Author.Tests.{ne_eqb, leb-true, le-leb, lt-ltb}
use Rattle.machine.specs.declared.Choice.{Choice}
use Rattle.machine.specs.declared.Sensor.{Sensor}
use Rattle.machine.specs.declared.Sheet.{Sheet}
use Rattle.machine.specs.Places.{all_below}
use Rattle.machine.specs.Sheet.{no_choice, sensor_of, name_of, option_of, text_ok, name_byte, choice_none, choice_ok, distinct, options_ok, sensor_ok, sensor_none, sensor_ok_at, sensors_ok}
use Rattle.machine.proofs.TestLaws.{cond_true, and_then}
use Rattle.machine.proofs.PlacesLaws.{below_at}
use Rattle.machine.proofs.SheetLaws.{text_out, sensor_out}
use Rattle.rules.specs.Apart.{choices_apart, names_apart}
use Rattle.rules.specs.Keys.{name_keys, keys_apart}
use Rattle.rules.proofs.KeyLaws.{names_by_keys}
use Rattle.rules.proofs.ApartLaws.{Padded, apart_distinct}

-- what is there below a count
there : (i n : ℕ) (a b : Bool) → i < n → cond (ltb i n) a b ≡ true → a ≡ true
there i n a b l h = sym (cond_true (ltb i n) a b (lt-ltb i n l)) ∙ h

-- a test, as a choice
cond_self : (t : Bool) → cond t true false ≡ t
cond_self true = refl
cond_self false = refl

-- of one to 8 options: type 4, each keeps its rules, and they are apart
pub options_are : (n : Sensor) → 1 ≤ n.option_count → n.option_count ≤ 8 → ((k : ℕ) → k < 8 → length (get_or n.options k no_choice).text ≡ 16)
    → (eqb n.kind 4 && (all_below (λ k. choice_ok n.option_count k (get_or n.options k no_choice)) 8 && choices_apart n.option_count n.options)) ≡ options_ok n
unfolding options_ok choices_apart choice_ok
options_are n l w long =
    rw (le-leb 1 count l, le-leb count 8 w, ne_eqb count 0 (λ e. omega arith), cond_self (eqb n.kind 4))
    (and_then (eqb n.kind 4) (all_below (λ k. choice_ok count k (o k)) 8) (choices_apart count n.options) (distinct (option_of n) count)
    (λ counted each. apart_distinct 16 8 count (λ k. (o k).len) (λ k. (o k).text) w (padded each)))
  where
    count : ℕ
    count = n.option_count

    o : ℕ → Choice
    o k = get_or n.options k no_choice

    padded : all_below (λ k. choice_ok count k (o k)) 8 ≡ true → (k : ℕ) → k < count → Padded 16 (o k).len (o k).text
    padded each k l =
        let t = text_out 1 16 name_byte (o k).len (o k).text
        (there k count (text_ok 1 16 name_byte (o k).len (o k).text) (choice_none (o k)) l (below_at (λ k. choice_ok count k (o k)) 8 k each (omega arith))) in
        record { sized = long k (omega arith); short = t.short; rest_zero = t.rest_zero }

-- at most 32 sensors, each keeps its rules, and their names are apart
pub sensors_are : (sheet : Sheet) → ((j : ℕ) → j < 32 → length (sensor_of sheet j).name ≡ 32)
    → (leb sheet.count 32 && (all_below (sensor_ok_at sheet) 32 && names_apart sheet)) ≡ sensors_ok sheet
unfolding sensors_ok names_apart
sensors_are sheet long = and_then (leb sheet.count 32) (all_below (sensor_ok_at sheet) 32) (names_apart sheet) (distinct (λ j. name_of (sensor_of sheet j)) sheet.count)
    (λ counted each. apart_distinct 32 32 sheet.count (λ j. (sensor_of sheet j).name_len) (λ j. (sensor_of sheet j).name) (leb-true sheet.count 32 counted) (padded (leb-true sheet.count 32 counted) each))
  where
    padded : sheet.count ≤ 32 → all_below (sensor_ok_at sheet) 32 ≡ true → (j : ℕ) → j < sheet.count → Padded 32 (sensor_of sheet j).name_len (sensor_of sheet j).name
    padded w each j l =
        let t = (sensor_out (sensor_of sheet j) (there j sheet.count (sensor_ok (sensor_of sheet j)) (sensor_none (sensor_of sheet j)) l (below_at (sensor_ok_at sheet) 32 j each (omega arith)))).name_is in
        record { sized = long j (omega arith); short = t.short; rest_zero = t.rest_zero }

-- where the keys of the names stand once each, the names are distinct
pub sensors_keyed : (sheet : Sheet) → ((j : ℕ) → j < 32 → length (sensor_of sheet j).name ≡ 32) → keys_apart (name_keys sheet) (min sheet.count 32) ≡ true
    → (leb sheet.count 32 && all_below (sensor_ok_at sheet) 32) ≡ sensors_ok sheet
sensors_keyed sheet long once = go (leb sheet.count 32) refl ∙ sensors_are sheet long
  where
    go : (b : Bool) → leb sheet.count 32 ≡ b → (b && all_below (sensor_ok_at sheet) 32) ≡ (b && (all_below (sensor_ok_at sheet) 32 && names_apart sheet))
    go true e =
        let w = leb-true sheet.count 32 e in
        let m : min sheet.count 32 ≡ sheet.count = omega arith in
        rw (names_by_keys sheet w (rw m at once)) (sym (and_right (all_below (sensor_ok_at sheet) 32)))
    go false e = refl
