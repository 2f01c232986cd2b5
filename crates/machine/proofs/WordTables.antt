-- Tables of words: a place that is found in a table is the first that has the word, and the request of a name is the one at its place.
use Prim.Native.Nat.{ℕ, zero, suc, ◌+◌, ◌≤◌, ◌<◌}
use native.Mathlib.Omega.{arith}
use mathlib.Core.Path.{◌≡◌, refl, sym, ap, ◌∙◌}
use mathlib.Core.Bool.{Bool, true, false, cond}
use mathlib.Core.List.{List, [], ◌∷◌, map}
use Rattle.std.specs.Prelude.{Option, None, Some}
use lib.ListN.{length, get_or}
use Rattle.output.specs.Text.{same}
use Rattle.texts.specs.Table.{words_of, word_count, word_of, place_in, place_of}
use Rattle.texts.proofs.TableLaws.{pick_at}
use Rattle.machine.specs.declared.Request.{Request}
use Rattle.machine.specs.Places.{first_below}
use Rattle.machine.specs.Requests.{Row, request_in, requests, request_named}
use Rattle.machine.proofs.FirstLaws.{first_on, first_at}

-- j places are passed, and the words ws follow
place_from : (f : ℕ → Bool) (word : List ℕ) (ws : List (List ℕ)) (j : ℕ) → first_below f j ≡ j → ((k : ℕ) → k < length ws → f (j + k) ≡ same (get_or ws k []) word)
    → first_below f (j + length ws) ≡ j + place_in ws word
place_from f word [] j e h = let z : j + 0 ≡ j = omega arith in rw z e
place_from f word (w ∷ ws) j e h = go (same w word) refl (λ p. place_from f word ws (j + 1) p (λ k l. let c : j + 1 + k ≡ j + suc k = omega arith in rw c (h (suc k) (omega arith))))
  where
    here : f j ≡ same w word
    here = let z : j + 0 ≡ j = omega arith in rw z at (h 0 (omega arith))

    go : (b : Bool) → same w word ≡ b → (first_below f (j + 1) ≡ j + 1 → first_below f (j + 1 + length ws) ≡ j + 1 + place_in ws word)
        → first_below f (j + suc (length ws)) ≡ j + cond b 0 (suc (place_in ws word))
    go true s on = let z : j + 0 ≡ j = omega arith in first_at f j e (here ∙ s) (j + suc (length ws)) (omega arith) ∙ sym z
    go false s on =
        let a : j + suc (length ws) ≡ j + 1 + length ws = omega arith in
        let b : j + suc (place_in ws word) ≡ j + 1 + place_in ws word = omega arith in
        rw (a, b) (on (first_on f j e (here ∙ s)))

pub place_first : (table word : List ℕ) → place_of table word ≡ first_below (λ k. same (word_of table k) word) (word_count table)
unfolding place_of word_of first_below
place_first table word =
    let r = place_from (λ k. same (word_of table k) word) word (words_of table) 0 refl (λ k h. let z : 0 + k ≡ k = omega arith in rw z (ap (λ (w : List ℕ). same w word) (pick_at (words_of table) k h))) in
    let a : 0 + word_count table ≡ word_count table = omega arith in
    let b : 0 + place_in (words_of table) word ≡ place_in (words_of table) word = omega arith in
    sym (rw (a, b) at r)

-- the request at a place of rows
abbrev pub request_at : List Row → ℕ → Option Request
request_at [] k = None
request_at (r ∷ rs) zero = Some r.request
request_at (r ∷ rs) (suc k) = request_at rs k

row_at : (rs : List Row) (name : List ℕ) → request_in rs name ≡ request_at rs (place_in (map (λ (r : Row). r.name) rs) name)
row_at [] name = refl
row_at (r ∷ rs) name = go (same r.name name) (row_at rs name)
  where
    go : (b : Bool) → request_in rs name ≡ request_at rs (place_in (map (λ (r : Row). r.name) rs) name)
        → cond b (Some r.request) (request_in rs name) ≡ request_at (r ∷ rs) (cond b 0 (suc (place_in (map (λ (r : Row). r.name) rs) name)))
    go true h = refl
    go false h = h

-- the request of a name, by its place
pub request_at_lem : (name : List ℕ) → request_named name ≡ request_at requests (place_in (map (λ (r : Row). r.name) requests) name)
unfolding request_named
request_at_lem name = row_at requests name

-- no row is behind the last
pub request_past : (rs : List Row) (k : ℕ) → length rs ≤ k → request_at rs k ≡ None
request_past [] k h = refl
request_past (r ∷ rs) zero h = absurd (omega arith)
request_past (r ∷ rs) (suc k) h = request_past rs k (omega arith)
