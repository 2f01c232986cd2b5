-- Lists of places, and one place more.
use Prim.Native.Nat.{ℕ, suc, ◌+◌, ◌-◌, ◌≤◌, ◌<◌}
use native.Mathlib.Omega.{arith}
use mathlib.Core.Path.{◌≡◌, refl, ap, sym, ◌∙◌, subst}
use mathlib.Core.Bool.{Bool, true, false, cond, ◌||◌}
use mathlib.Core.List.{List, [], ◌∷◌, ◌++◌, append_assoc}
use lib.ListN.{length, drop, set, replicate, length-append}
use lib.Seq.{take-append_seam, set-append_seam}
use Rattle.std.specs.Prelude.{Result, Ok, Err, IfOk, MatchResult}
use Rattle.machine.specs.declared.Refusal.{Refusal}
use Rattle.machine.specs.declared.Refusal.TheVariants.{SensorTwice}
use Rattle.machine.specs.Places.{has, twice, Each}
use Rattle.machine.proofs.TestLaws.{cond_cases}
use Rattle.machine.proofs.PlacesLaws.{each_append}
use Rattle.machine.proofs.AnyLaws.{twice_and}
use Rattle.machine.proofs.CountLaws.{few_distinct}
use Rattle.names.specs.declared.Listed.{Listed}
use Rattle.names.specs.Scan.{listing, places_of, Places, distinctly, with_place}
use Rattle.machine.proofs.StoreLaws.{drop-replicate}

-- places in an array of zeros
pub listing_of : (count : ℕ) (js : List ℕ) → count ≡ length js → record { count = count; places = js ++ drop count (replicate 32 0) } ≡ listing js
unfolding listing
listing_of count js e = rw (e, drop-replicate (length js) 32 0)

pub listing_places : (js : List ℕ) → places_of (listing js) ≡ js
unfolding listing
listing_places js = take-append_seam js (replicate (32 - length js) 0)

places_listing : (js : List ℕ) → Each (λ j. j < 32) js → twice js ≡ false → Places (listing js)
unfolding listing
places_listing js h t = record {
  is = ap listing (sym (listing_places js));
  held = subst (Each (λ j. j < 32)) (sym (listing_places js)) h;
  once = ap twice (listing_places js) ∙ t;
}

pub places_none : Places (listing [])
unfolding twice
places_none = places_listing [] tt refl

-- a place stored behind the others
set_more : (js : List ℕ) (j : ℕ) → length js < 32 → set (js ++ replicate (32 - length js) 0) (length js) j ≡ (js ++ (j ∷ [])) ++ replicate (32 - length (js ++ (j ∷ []))) 0
set_more js j h =
    let e : 32 - length js ≡ suc (31 - length js) = omega arith in
    let f : 32 - length (js ++ (j ∷ [])) ≡ 31 - length js = omega (arith, length-append js (j ∷ [])) in
    rw (e, f) (set-append_seam js 0 (replicate (31 - length js) 0) j ∙ sym (append_assoc js (j ∷ []) (replicate (31 - length js) 0)))

listing_more : (js : List ℕ) (j count : ℕ) (places : List ℕ) → length js < 32 → count ≡ length js → places ≡ js ++ replicate (32 - length js) 0
    → record { count = count + 1; places = set places count j } ≡ listing (js ++ (j ∷ []))
unfolding listing
listing_more js j count places h e q = rw (e, q, set_more js j h, length-append js (j ∷ []))

module _ {list : Listed} (p : Places list) where
  pub places_count : list.count ≡ length (places_of list)
  unfolding listing
  places_count = ap (λ (l : Listed). l.count) p.is

  pub places_few : list.count ≤ 32
  places_few = rw places_count (few_distinct 32 (places_of list) p.held p.once)

  places_are : list.places ≡ places_of list ++ replicate (32 - length (places_of list)) 0
  unfolding listing
  places_are = ap (λ (l : Listed). l.places) p.is

  module _ {j : ℕ} (h : j < 32) where
    -- a place that the list does not have
    more : has j (places_of list) ≡ false → Each (λ j. j < 32) (places_of list ++ (j ∷ [])) × (twice (places_of list ++ (j ∷ [])) ≡ false)
    more e = (each_append (λ j. j < 32) (places_of list) (j ∷ []) p.held (h, tt), rw (twice_and (places_of list) j, p.once, e))

    pub places_room : has j (places_of list) ≡ false → list.count < 32
    places_room e = let q = more e in
        omega (arith, places_count, length-append (places_of list) (j ∷ []), few_distinct 32 (places_of list ++ (j ∷ [])) q.0 q.1)

    pub places_with : IfOk (with_place list j) Places
    unfolding with_place
    places_with = cond_cases (λ r. IfOk r Places) (has j (places_of list)) (Err SensorTwice) (Ok (listing (places_of list ++ (j ∷ []))))
        (λ t. tt) (λ e. let q = more e in places_listing (places_of list ++ (j ∷ [])) q.0 q.1)

    -- the place stored
    pub placed : has j (places_of list) ≡ false → Ok (record { count = list.count + 1; places = set list.places list.count j }) ≡ with_place list j
    unfolding with_place
    placed e = rw e (ap Ok (listing_more (places_of list) j list.count list.places (rw (← places_count) (places_room e)) places_count places_are))

-- a list that has the place
pub with_twice : (list : Listed) (j : ℕ) → has j (places_of list) ≡ true → Err SensorTwice ≡ with_place list j
unfolding with_place
with_twice list j e = rw e

-- a list gone on with one place more, if it is one
abbrev pub gone_on : Result Listed Refusal → ℕ → Result Listed Refusal
gone_on (Ok list) j = with_place list j
gone_on (Err r) j = Err r

pub gone_on_is : (list next : Result Listed Refusal) (j : ℕ) → MatchResult list (λ l. next ≡ with_place l j) (λ r. next ≡ Err r) → next ≡ gone_on list j
gone_on_is (Ok l) next j e = e
gone_on_is (Err r) next j e = e

pub places_on : (list : Result Listed Refusal) {j : ℕ} → IfOk list Places → j < 32 → IfOk (gone_on list j) Places
places_on (Ok l) p h = places_with p h
places_on (Err r) p h = tt

-- one place more than places that are listed
pub with_distinctly : (js : List ℕ) (j : ℕ) → gone_on (distinctly js) j ≡ distinctly (js ++ (j ∷ []))
unfolding with_place distinctly
with_distinctly js j = rw (twice_and js j) (go (twice js))
  where
    go : (t : Bool) → gone_on (cond t (Err SensorTwice) (Ok (listing js))) j ≡ cond (t || has j js) (Err SensorTwice) (Ok (listing (js ++ (j ∷ []))))
    go true = refl
    go false = rw (listing_places js)
