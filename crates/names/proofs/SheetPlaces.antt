-- On a sheet in range, of at most 32 sensors, the places that this crate lists are those of the definitions of the requests.
use Prim.Native.Nat.{ℕ, ◌≤◌, ◌<◌}
use native.Mathlib.Omega.{arith}
use mathlib.Core.Path.{◌≡◌, refl, ap, sym, ◌∙◌}
use mathlib.Core.Bool.{Bool, true, false, cond}
use mathlib.Core.List.{List, [], ◌∷◌, map}
use lib.Dec.{leb}
use lib.ListN.{length}
use borrow.Author.Tests.{leb-false}
use Rattle.output.specs.Text.{same}
use Rattle.machine.specs.declared.Sheet.{Sheet}
use Rattle.machine.specs.Places.{tabulate, any, first_below, twice, Each}
use Rattle.machine.specs.Sheet.{sensor_of, name_of, place_of, not_on_sheet}
use Rattle.machine.specs.Requests.{all_places, split}
use Rattle.machine.specs.Declined.{places_declined}
use Rattle.machine.proofs.PlacesLaws.{each_weaker, each_any_false}
use Rattle.machine.proofs.CountLaws.{few_distinct}
use Rattle.machine.proofs.SheetLaws.{places_passed, places_below}
use Rattle.std.specs.Prelude.{Ok, Err, IfOk}
use Rattle.machine.specs.declared.Refusal.TheVariants.{UnknownSensor, SensorTwice}
use Rattle.machine.specs.Refusals.{number_in}
use Rattle.names.specs.declared.Listed.{Listed}
use Rattle.names.specs.Scan.{held, place_in, is_past, listing, places_of, distinctly, scanned, places_named}
use Rattle.names.proofs.ListingLaws.{listing_places}
use Rattle.names.proofs.EveryLaws.{none_past, none_twice}

map_same : {A B : Type 0} (f g : A → B) → ((x : A) → f x ≡ g x) → (xs : List A) → map f xs ≡ map g xs
map_same f g e [] = refl
map_same f g e (x ∷ xs) = rw (e x, map_same f g e xs)

-- A list is no longer than its array, on every sheet.

pub scanned_few : (sheet : Sheet) (js : List ℕ) → IfOk (scanned sheet js) (λ list. list.count ≤ 32)
unfolding scanned distinctly listing
scanned_few sheet js = go (any (is_past sheet) js) (twice js) refl refl
  where
    inside : any (is_past sheet) js ≡ false → Each (λ j. j < 32) js
    inside e = each_weaker (λ j. is_past sheet j ≡ false) (λ j. j < 32) (λ j h. omega (arith, leb-false (held sheet) j h)) js (each_any_false (is_past sheet) js e)

    go : (a b : Bool) → any (is_past sheet) js ≡ a → twice js ≡ b → IfOk (cond a (Err UnknownSensor) (cond b (Err SensorTwice) (Ok (listing js)))) (λ list. list.count ≤ 32)
    go true b e f = tt
    go false true e f = tt
    go false false e f = few_distinct 32 js (inside e) f

module _ (sheet : Sheet) (h : sheet.count ≤ 32) where
  pub held_is : held sheet ≡ sheet.count
  held_is = omega arith

  pub place_is : (name : List ℕ) → place_in sheet name ≡ place_of sheet name
  unfolding place_in place_of
  place_is name = ap (first_below (λ j. same (name_of (sensor_of sheet j)) name)) held_is

  pub named_are : (names : List ℕ) → places_named sheet names ≡ map (place_of sheet) (split names)
  unfolding places_named
  named_are names = map_same (place_in sheet) (place_of sheet) place_is (split names)

  past_are : (js : List ℕ) → any (is_past sheet) js ≡ any (not_on_sheet sheet) js
  past_are js = ap (λ n. any (leb n) js) held_is

  module _ (js : List ℕ) where
    pub scanned_number : number_in (scanned sheet js) ≡ places_declined sheet js 0
    unfolding scanned distinctly
    scanned_number = rw (past_are js) (go (any (not_on_sheet sheet) js) (twice js))
      where
        go : (a b : Bool) → number_in (cond a (Err UnknownSensor) (cond b (Err SensorTwice) (Ok (listing js)))) ≡ cond a 16 (cond b 21 0)
        go true b = refl
        go false true = refl
        go false false = refl

    -- a list that no row declines
    module _ {list : Listed} (z : scanned sheet js ≡ Ok list) where
      pub passes : (any (not_on_sheet sheet) js ≡ false) × (twice js ≡ false)
      passes = let a = places_passed sheet js 0 (sym scanned_number ∙ ap number_in z) in (a.0, a.1.0)

      pub scanned_is : list ≡ listing js
      unfolding scanned distinctly
      scanned_is = let is : scanned sheet js ≡ Ok (listing js) = rw (past_are js, passes.0, passes.1) in cc

      pub scanned_places : places_of list ≡ js
      scanned_places = ap places_of scanned_is ∙ listing_places js

      pub scanned_count : list.count ≡ length js
      unfolding listing
      scanned_count = ap (λ (l : Listed). l.count) scanned_is

      pub scanned_below : Each (λ j. j < sheet.count) js
      scanned_below = places_below sheet js passes.0

  -- the list of all
  pub every_is : Ok (listing (tabulate (λ j. j) (held sheet))) ≡ scanned sheet (all_places sheet)
  unfolding scanned distinctly
  every_is = rw (past_are (all_places sheet), none_past sheet.count, none_twice sheet.count) (ap (λ n. Ok (listing (tabulate (λ j. j) n))) held_is)
