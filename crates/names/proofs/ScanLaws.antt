-- The scan of a comma list: what is listed, gone on with the places that the rest names, is the list of all.
use Prim.Native.Nat.{ℕ, zero, suc, ◌+◌, ◌≤◌, ◌<◌}
use native.Mathlib.Omega.{arith}
use native.Mathlib.Numerals.{add-one}
use mathlib.Core.Path.{◌≡◌, refl, ap, sym, subst, ◌∙◌}
use mathlib.Core.Bool.{Bool, true, false, cond, not, ◌||◌}
use mathlib.Core.List.{List, [], ◌∷◌, ◌++◌, map, append_assoc, append-nil}
use lib.Dec.{eqb, ltb}
use lib.ListN.{length, take, drop, get_or}
use Rattle.std.proofs.Common.{length-take}
use borrow.Author.Tests.{ltb-true, ltb-false, le-leb, lt-leb}
use Rattle.std.specs.Prelude.{Option, Some, None, Result, Ok, Err, IfOk, position}
use Rattle.std.specs.List.{position_or_len, slice_split}
use Rattle.std.proofs.lemmas.List.{get_or-take, drop_more, drop_all}
use Rattle.std.proofs.lemmas.List.Sums.{fails_before_first, prefix_len_stops, prefix_len-le-length}
use Rattle.std.proofs.lemmas.Option.{cond_some}
use Rattle.output.specs.Text.{same}
use Rattle.machine.specs.declared.Sensor.{Sensor}
use Rattle.machine.specs.declared.Sheet.{Sheet}
use Rattle.machine.specs.declared.Refusal.{Refusal}
use Rattle.machine.specs.declared.Refusal.TheVariants.{UnknownSensor}
use Rattle.machine.specs.Places.{any, first_below, twice}
use Rattle.machine.specs.Sheet.{no_sensor, sensor_of, name_of}
use Rattle.machine.specs.Requests.{split}
use Rattle.machine.proofs.FirstLaws.{first_on, first_at}
use Rattle.names.specs.declared.Listed.{Listed}
use Rattle.names.specs.Scan.{held, place_in, is_past, listing, Places, distinctly, scanned, places_named}
use Rattle.names.proofs.ListingLaws.{gone_on, places_none, places_on, with_distinctly}
use Rattle.names.proofs.SplitLaws.{split_parts}

-- The search of a name.

-- no place below n passes the test
first_passed : (f : ℕ → Bool) (n : ℕ) → ((k : ℕ) → k < n → f k ≡ false) → first_below f n ≡ n
unfolding first_below
first_passed f zero h = refl
first_passed f (suc n) h = rw add-one at (first_on f n (first_passed f n (λ k l. h k (omega arith))) (h n (omega arith)))

first_same : (f g : ℕ → Bool) (n : ℕ) → ((k : ℕ) → k < n → f k ≡ g k) → first_below f n ≡ first_below g n
unfolding first_below
first_same f g zero h = refl
first_same f g (suc n) h = rw (first_same f g n (λ k l. h k (omega arith)), h n (omega arith))

not_false : (b : Bool) → not b ≡ false → b ≡ true
not_false true e = refl
not_false false e = sym e

-- the first that passes, by the library's word and by place
position_first : {A : Type 0} (p : A → Bool) (xs : List A) (d : A) → position_or_len p xs ≡ first_below (λ j. p (get_or xs j d)) (length xs)
position_first {A} p xs d = go (ltb (position_or_len p xs) (length xs)) refl
  where
    passed : first_below (λ j. p (get_or xs j d)) (position_or_len p xs) ≡ position_or_len p xs
    passed = first_passed (λ j. p (get_or xs j d)) (position_or_len p xs) (λ k h. fails_before_first p xs k d h)

    go : (b : Bool) → ltb (position_or_len p xs) (length xs) ≡ b → position_or_len p xs ≡ first_below (λ j. p (get_or xs j d)) (length xs)
    go true e = let h = ltb-true (position_or_len p xs) (length xs) e in
        sym (first_at (λ j. p (get_or xs j d)) (position_or_len p xs) passed (not_false (p (get_or xs (position_or_len p xs) d)) (prefix_len_stops (λ x. not (p x)) xs d h)) (length xs) h)
    go false e =
        let q : position_or_len p xs ≡ length xs = omega (arith, ltb-false (position_or_len p xs) (length xs) e, prefix_len-le-length (λ x. not (p x)) xs) in
        sym passed ∙ ap (first_below (λ j. p (get_or xs j d))) q

-- the sensor has the name
abbrev named : List ℕ → Sensor → Bool
named name n = same (name_of n) name

module _ (sheet : Sheet) (name : List ℕ) (l : length sheet.sensors ≡ 32) {most : ℕ} (m : most ≡ held sheet) where
  taken : length (take most sheet.sensors) ≡ held sheet
  taken = omega (arith, length-take most sheet.sensors)

  place_is : position_or_len (named name) (take most sheet.sensors) ≡ place_in sheet name
  unfolding place_in
  place_is =
      position_first (named name) (take most sheet.sensors) no_sensor
      ∙ (ap (first_below (λ j. named name (get_or (take most sheet.sensors) j no_sensor))) taken
      ∙ first_same (λ j. named name (get_or (take most sheet.sensors) j no_sensor)) (λ j. named name (sensor_of sheet j)) (held sheet)
      (λ k h. ap (named name) (get_or-take most sheet.sensors k no_sensor (omega arith))))

  -- the place is found, or no sensor has the name
  module _ {found : Option ℕ} (e : found ≡ position (named name) (take most sheet.sensors)) where
    pub place_found : {j : ℕ} → found ≡ Some j → (j ≡ place_in sheet name) × (j < held sheet)
    place_found {j} h =
        let q = cond_some (ltb (position_or_len (named name) (take most sheet.sensors)) (length (take most sheet.sensors))) (position_or_len (named name) (take most sheet.sensors)) j (sym e ∙ h) in
        (sym q.1 ∙ place_is, omega (arith, taken, q.1, ltb-true (position_or_len (named name) (take most sheet.sensors)) (length (take most sheet.sensors)) q.0))

    pub place_unknown : found ≡ None → held sheet ≤ place_in sheet name
    place_unknown h = rw (← place_is) (go (ltb (position_or_len (named name) (take most sheet.sensors)) (length (take most sheet.sensors))) refl (sym e ∙ h))
      where
        go : (b : Bool) → ltb (position_or_len (named name) (take most sheet.sensors)) (length (take most sheet.sensors)) ≡ b
            → ◌≡◌ {A = Option ℕ} (cond b (Some (position_or_len (named name) (take most sheet.sensors))) None) None → held sheet ≤ position_or_len (named name) (take most sheet.sensors)
        go true t k = absurd (cc)
        go false t k = omega (arith, taken, ltb-false (position_or_len (named name) (take most sheet.sensors)) (length (take most sheet.sensors)) t)

-- a list gone on with more places, up to the first that is past
abbrev scan_on : Sheet → Result Listed Refusal → List ℕ → Result Listed Refusal
scan_on sheet list [] = list
scan_on sheet list (j ∷ js) = cond (is_past sheet j) (Err UnknownSensor) (scan_on sheet (gone_on list j) js)

scan_distinctly : (sheet : Sheet) (done js : List ℕ) → scan_on sheet (distinctly done) js ≡ cond (any (is_past sheet) js) (Err UnknownSensor) (distinctly (done ++ js))
unfolding any
scan_distinctly sheet done [] = ap distinctly (sym (append-nil done))
scan_distinctly sheet done (j ∷ js) = go (is_past sheet j) (scan_distinctly sheet (done ++ (j ∷ [])) js)
  where
    go : (t : Bool) → scan_on sheet (distinctly (done ++ (j ∷ []))) js ≡ cond (any (is_past sheet) js) (Err UnknownSensor) (distinctly ((done ++ (j ∷ [])) ++ js))
        → cond t (Err UnknownSensor) (scan_on sheet (gone_on (distinctly done) j) js) ≡ cond (t || any (is_past sheet) js) (Err UnknownSensor) (distinctly (done ++ j ∷ js))
    go true ih = refl
    go false ih = rw (with_distinctly done j, ← append_assoc done (j ∷ []) js) ih

-- the list so far, behind n of the names
pub record Scanning (sheet : Sheet) (names : List ℕ) (list : Result Listed Refusal) (n : ℕ) : Type 0 where
  pub fit : IfOk list Places
  pub on : scan_on sheet list (map (place_in sheet) (drop n (split names))) ≡ scanned sheet (places_named sheet names)

pub scanning : (sheet : Sheet) (names : List ℕ) {list : Listed} → list ≡ listing [] → Scanning sheet names (Ok list) 0
unfolding scanned distinctly twice places_named
scanning sheet names e = rw e (record { fit = places_none; on = scan_distinctly sheet [] (places_named sheet names) })

module _ {sheet : Sheet} {names : List ℕ} {list : Result Listed Refusal} {n : ℕ} (f : Scanning sheet names list n) where
  pub scanning_end : n ≡ length (slice_split (λ b. eqb b 44) names) → list ≡ scanned sheet (places_named sheet names)
  scanning_end e = sym (ap (λ l. scan_on sheet list (map (place_in sheet) l)) (drop_all n (split names) (rw (e, split_parts names) (omega arith)))) ∙ f.on

  -- the next name and its place
  module _ {name : List ℕ} (t : (n < length (slice_split (λ b. eqb b 44) names)) × (name ≡ get_or (slice_split (λ b. eqb b 44) names) n name)) where
    h : (n < length (split names)) × (name ≡ get_or (split names) n name)
    h = subst (λ l. (n < length l) × (name ≡ get_or l n name)) (split_parts names) t

    on_by : (t : Bool) → is_past sheet (place_in sheet name) ≡ t
        → cond t (Err UnknownSensor) (scan_on sheet (gone_on list (place_in sheet name)) (map (place_in sheet) (drop (n + 1) (split names)))) ≡ scanned sheet (places_named sheet names)
    on_by t k = rw (← k) (ap (λ w. cond (is_past sheet (place_in sheet w)) (Err UnknownSensor) (scan_on sheet (gone_on list (place_in sheet w)) (map (place_in sheet) (drop (n + 1) (split names))))) h.1
        ∙ (ap (λ l. scan_on sheet list (map (place_in sheet) l)) (sym (drop_more (split names) n name h.0)) ∙ f.on))

    pub scanning_on : {j : ℕ} {next : Result Listed Refusal} → (j ≡ place_in sheet name) × (j < held sheet) → next ≡ gone_on list j → {m : ℕ} → m ≡ n + 1 → Scanning sheet names next m
    scanning_on q w e = rw (e, w, q.0) (record { fit = places_on list f.fit (omega (arith, q.0, q.1)); on = on_by false (lt-leb (held sheet) (place_in sheet name) (omega (arith, q.0, q.1))) })

    pub scanning_unknown : held sheet ≤ place_in sheet name → Err UnknownSensor ≡ scanned sheet (places_named sheet names)
    scanning_unknown k = on_by true (le-leb (held sheet) (place_in sheet name) k)
