-- A `sensor-sampling` that is not declined: its sensors are on the sheet, each once, and the strategy suits each of them.
use Rattle.std.specs.Prelude.{Option}
use Prim.Native.Nat.{ℕ, zero, suc, ◌+◌, ◌≤◌, ◌<◌}
use native.Mathlib.Omega.{arith}
use mathlib.Core.Path.{◌≡◌, refl, ap, sym, ◌∙◌}
use mathlib.Core.Bool.{Bool, true, false, cond, not, ◌&&◌, ◌||◌}
use mathlib.Core.List.{List, [], ◌∷◌, map}
use lib.Dec.{eqb, leb, ltb}
use lib.ListN.{length, get_or, drop, length-map}
use borrow.Author.Tests.{leb-false, le-leb, ltb-false, not-false}
use Rattle.output.specs.Text.{all}
use Rattle.message.specs.Message.{Message}
use Rattle.value.specs.Reading.{is_measured}
use Rattle.value.specs.Parameter.{period_of, shortest_of}
use Rattle.machine.specs.declared.Sheet.{Sheet}
use Rattle.machine.specs.Places.{any, has, twice}
use Rattle.machine.specs.Sheet.{sensor_of, not_on_sheet, place_of}
use Rattle.machine.specs.Range.{period_ok, rates_ok, difference_ok, strategy_ok}
use Rattle.machine.specs.Requests.{listed, by_difference, parameter_count, is_bad, number_of, difference_of, parameters_of, strategy_by, shortest_over_longest, strategy_made, kind_asked, strategy_asked, split, before, argument}
use Rattle.machine.specs.Declined.{setting_declined, sampling_declined}
use Rattle.machine.proofs.TestLaws.{and_in, and_false, or_false, passed, cond_false, eqb_refl}
use Rattle.machine.proofs.SheetLaws.{measured_most, Sensors, places_passed}
use Rattle.machine.proofs.ParameterRange.{period_fits, differences_fit}
use Prim.Native.Char.{code}
use Rattle.machine.proofs.PlacesLaws.{all_of, none_has}

-- a test that holds at each number of a list
-- Strategies.

-- shortest and longest
rates_fit : (a b : ℕ) → period_ok b ≡ true → ltb b a ≡ false → rates_ok a b ≡ true
rates_fit a b h k = and_in (leb a b) (period_ok b) (le-leb a b (ltb-false b a k)) h

-- parameters that are not bad

one_good : (x : Option ℕ) → any is_bad (x ∷ []) ≡ false → is_bad x ≡ false
unfolding any
one_good x h = (or_false (is_bad x) false h).0

two_good : (x y : Option ℕ) → any is_bad (x ∷ y ∷ []) ≡ false → (is_bad x ≡ false) × (is_bad y ≡ false)
unfolding any
two_good x y h = let a = or_false (is_bad x) (is_bad y || false) h in (a.0, one_good y a.1)

module _ (sheet : Sheet) (js : List ℕ) (ts : List (List ℕ)) (j : ℕ) (h : has j js ≡ true) where
  -- by its place in `strategy_text`
  strategy_suits : (k : ℕ) → k < 7 → 1 ≤ (sensor_of sheet j).kind → (by_difference k ≡ true → (sensor_of sheet j).kind < 3)
      → any is_bad (parameters_of sheet js k ts) ≡ false → shortest_over_longest (strategy_by k (map number_of (parameters_of sheet js k ts))) ≡ false
      → strategy_ok (sensor_of sheet j).kind (strategy_by k (map number_of (parameters_of sheet js k ts))) ≡ true
  unfolding parameters_of strategy_by strategy_ok shortest_over_longest any
  strategy_suits zero l p q b c = refl
  strategy_suits (suc zero) l p q b c = refl
  strategy_suits (suc (suc zero)) l p q b c = period_fits (get_or ts 0 []) (one_good (period_of (get_or ts 0 [])) b)
  strategy_suits (suc (suc (suc zero))) l p q b c = refl
  strategy_suits (suc (suc (suc (suc zero)))) l p q b c = differences_fit sheet js (get_or ts 0 []) (one_good (difference_of sheet js (get_or ts 0 [])) b) j h p (q refl)
  strategy_suits (suc (suc (suc (suc (suc zero))))) l p q b c = let g = two_good (shortest_of (get_or ts 0 [])) (period_of (get_or ts 1 [])) b in
      rates_fit (number_of (shortest_of (get_or ts 0 []))) (number_of (period_of (get_or ts 1 []))) (period_fits (get_or ts 1 []) g.1) c
  strategy_suits (suc (suc (suc (suc (suc (suc zero)))))) l p q b c =
      let f = or_false (is_bad (difference_of sheet js (get_or ts 0 []))) (any is_bad (shortest_of (get_or ts 1 []) ∷ period_of (get_or ts 2 []) ∷ [])) b in
      let g = two_good (shortest_of (get_or ts 1 [])) (period_of (get_or ts 2 [])) f.1 in
      and_in (difference_ok (sensor_of sheet j).kind (number_of (difference_of sheet js (get_or ts 0 []))))
      (rates_ok (number_of (shortest_of (get_or ts 1 []))) (number_of (period_of (get_or ts 2 []))))
      (differences_fit sheet js (get_or ts 0 []) f.0 j h p (q refl))
      (rates_fit (number_of (shortest_of (get_or ts 1 []))) (number_of (period_of (get_or ts 2 []))) (period_fits (get_or ts 2 []) g.1) c)
  strategy_suits (suc (suc (suc (suc (suc (suc (suc k))))))) l p q b c = absurd (omega arith)

-- The request.

pub split_some : (names : List ℕ) → 0 < length (split names)
split_some [] = omega arith
split_some (b ∷ s) = go (eqb b (code ",")) (split s)
  where
    go : (c : Bool) (ws : List (List ℕ)) → 0 < length (cond c ([] ∷ ws) (before b ws))
    go true ws = omega arith
    go false [] = omega arith
    go false (w ∷ ws) = omega arith

pub listed_some : (sheet : Sheet) (m : Message) → 0 < length (listed sheet m)
unfolding listed
listed_some sheet m = rw (length-map (split (argument m 0)) (place_of sheet)) (split_some (argument m 0))

pub listed_known : (sheet : Sheet) (m : Message) → sampling_declined sheet m ≡ 0 → (any (not_on_sheet sheet) (listed sheet m) ≡ false) × (twice (listed sheet m) ≡ false)
unfolding sampling_declined
listed_known sheet m e =
    let a = places_passed sheet (listed sheet m) _ e in
    (a.0, a.1.0)

-- a listed sensor is on the sheet
pub listed_below : (sheet : Sheet) (m : Message) → sampling_declined sheet m ≡ 0 → (j : ℕ) → has j (listed sheet m) ≡ true → j < sheet.count
listed_below sheet m e j h = leb-false sheet.count j (none_has (not_on_sheet sheet) (listed sheet m) j (listed_known sheet m e).0 h)

-- what a list with a strategy has passed
record Setting (sheet : Sheet) (m : Message) : Type 0 where
  strategy_known : kind_asked m < 7
  measured : by_difference (kind_asked m) && any (λ j. not (is_measured (sensor_of sheet j).kind)) (listed sheet m) ≡ false
  good : any is_bad (parameters_of sheet (listed sheet m) (kind_asked m) (drop 2 m.args)) ≡ false
  in_order : shortest_over_longest (strategy_asked sheet m) ≡ false

setting_passed : (sheet : Sheet) (m : Message) → sampling_declined sheet m ≡ 0 → eqb (length m.args) 1 ≡ false → Setting sheet m
unfolding sampling_declined setting_declined strategy_asked
setting_passed sheet m e q =
    let rest = (places_passed sheet (listed sheet m) _ e).1.1 in
    let own = setting_declined sheet (listed sheet m) (kind_asked m) (length m.args) (drop 2 m.args) in
    let c : own ≡ 0 = sym (cond_false (eqb (length m.args) 1) (cond (ltb 1 (length (listed sheet m))) 15 0) own q) ∙ rest in
    let d = passed (leb 7 (kind_asked m)) 17 _ (omega arith) c in
    let f = passed (not (eqb (length m.args) (2 + parameter_count (kind_asked m)))) 15 _ (omega arith) d.1 in
    let g = passed (by_difference (kind_asked m) && any (λ j. not (is_measured (sensor_of sheet j).kind)) (listed sheet m)) 18 _ (omega arith) f.1 in
    let h = passed (any is_bad (parameters_of sheet (listed sheet m) (kind_asked m) (drop 2 m.args))) 19 _ (omega arith) g.1 in
    let i = passed (shortest_over_longest (strategy_asked sheet m)) 20 0 (omega arith) h.1 in
    record { strategy_known = leb-false 7 (kind_asked m) d.0; measured = g.0; good = h.0; in_order = i.0 }

-- the strategy suits a listed sensor
pub setting_suits : (sheet : Sheet) → Sensors sheet → (m : Message) → sampling_declined sheet m ≡ 0 → eqb (length m.args) 1 ≡ false
    → (j : ℕ) → has j (listed sheet m) ≡ true → strategy_ok (sensor_of sheet j).kind (strategy_asked sheet m) ≡ true
unfolding strategy_asked strategy_made
setting_suits sheet r m e q j h =
    strategy_suits sheet (listed sheet m) (drop 2 m.args) j h (kind_asked m) p.strategy_known (r.sensor_is j (listed_below sheet m e j h)).kind_least
    (λ t. omega (arith, measured_most (sensor_of sheet j).kind (not-false _ (none_has (λ j. not (is_measured (sensor_of sheet j).kind)) (listed sheet m) j (and_false (by_difference (kind_asked m)) _ p.measured t) h))))
    p.good p.in_order
  where
    p : Setting sheet m
    p = setting_passed sheet m e q

pub setting_fits : (sheet : Sheet) → Sensors sheet → (m : Message) → sampling_declined sheet m ≡ 0 → eqb (length m.args) 1 ≡ false
    → all (λ j. strategy_ok (sensor_of sheet j).kind (strategy_asked sheet m)) (listed sheet m) ≡ true
setting_fits sheet r m e q = all_of (λ j. strategy_ok (sensor_of sheet j).kind (strategy_asked sheet m)) (listed sheet m) (setting_suits sheet r m e q)

first_has : (js : List ℕ) → 0 < length js → has (get_or js 0 0) js ≡ true
unfolding has any
first_has [] h = absurd (omega arith)
first_has (j ∷ js) h = ap (λ b. b || any (eqb j) js) (eqb_refl j)

-- the sensor that is named first
pub first_listed : (sheet : Sheet) (m : Message) → has (get_or (listed sheet m) 0 0) (listed sheet m) ≡ true
first_listed sheet m = first_has (listed sheet m) (listed_some sheet m)
