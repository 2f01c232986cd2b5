-- The words of a table: the parts that the library's `split` gives, and what is found among them.
use Prim.Native.Nat.{ℕ, zero, suc, ◌+◌, ◌≤◌, ◌<◌}
use native.Mathlib.Omega.{arith}
use mathlib.Core.Path.{◌≡◌, refl, sym, ap, ◌∙◌}
use mathlib.Core.Bool.{Bool, true, false, cond, not}
use mathlib.Core.List.{List, [], ◌∷◌, map}
use Rattle.std.specs.Prelude.{Option, Some, None}
use Rattle.std.specs.List.{slice_split, onto_first, slice_get, last_or, prefix_len}
use Rattle.std.specs.Option.{unwrap_or}
use Rattle.std.specs.Option.{option_copied}
use Rattle.std.specs.Slice.{IsItemAt}
use Rattle.std.proofs.Common.{Bor}
use Rattle.std.proofs.lemmas.Option.{same_Some, none-some, slice_get_past, slice_get_read}
use lib.Dec.{eqb, ltb}
use borrow.Author.Tests.{ltb-true, ltb-false}
use lib.ListN.{length, get_or}
use Rattle.std.specs.Str.{bytes_eq}
use Rattle.output.specs.Text.{same}
use Rattle.texts.proofs.SameLaws.{same_bytes}
use Rattle.texts.specs.Table.{start_with, words_of, word_count, front, final, place_in, place_of, below}

-- a byte that parts words
abbrev pub is_bar : ℕ → Bool
is_bar b = eqb b 124

onto_start : (b : ℕ) (ws : List (List ℕ)) → onto_first b ws ≡ start_with b ws
onto_start b [] = refl
onto_start b (w ∷ ws) = refl

-- the parts between the bars are the words
pub split_words : (s : List ℕ) → slice_split is_bar s ≡ words_of s
split_words [] = refl
split_words (b ∷ s) = go (is_bar b) (split_words s)
  where
    go : (t : Bool) → slice_split is_bar s ≡ words_of s → cond t ([] ∷ slice_split is_bar s) (onto_first b (slice_split is_bar s)) ≡ cond t ([] ∷ words_of s) (start_with b (words_of s))
    go true h = ap (λ (ws : List (List ℕ)). [] ∷ ws) h
    go false h = rw h (onto_start b (words_of s))

-- the word at a place among words, the last one from its place on
abbrev pub pick : List (List ℕ) → ℕ → List ℕ
pick ws k = get_or (front ws) k (final ws)

-- a place below the number of words has its own
pub pick_at : (ws : List (List ℕ)) (k : ℕ) → k < length ws → pick ws k ≡ get_or ws k []
pick_at [] k h = absurd (omega arith)
pick_at (w ∷ []) zero h = refl
pick_at (w ∷ []) (suc k) h = absurd (omega arith)
pick_at (w ∷ (v ∷ ws)) zero h = refl
pick_at (w ∷ (v ∷ ws)) (suc k) h = pick_at (v ∷ ws) k (omega arith)

pub pick_some : (ws : List (List ℕ)) (k : ℕ) (w : List ℕ) → Some w ≡ slice_get ws k → w ≡ pick ws k
pick_some [] k w e = absurd (none-some w (sym e))
pick_some (v ∷ []) zero w e = same_Some w v e
pick_some (v ∷ []) (suc k) w e = absurd (none-some w (sym e))
pick_some (v ∷ (u ∷ ws)) zero w e = same_Some w v e
pick_some (v ∷ (u ∷ ws)) (suc k) w e = pick_some (u ∷ ws) k w e

pub pick_none : (ws : List (List ℕ)) (k : ℕ) → None ≡ slice_get ws k → final ws ≡ pick ws k
pick_none [] k e = refl
pick_none (v ∷ []) zero e = absurd (none-some v e)
pick_none (v ∷ []) (suc k) e = refl
pick_none (v ∷ (u ∷ ws)) zero e = absurd (none-some v e)
pick_none (v ∷ (u ∷ ws)) (suc k) e = pick_none (u ∷ ws) k e

-- the last of some values, where `none` stands for none
module _ {A : Type 0} (v : A → List ℕ) (none : A) where
  last_of : (x : A) (xs : List A) → v (unwrap_or (last_or (Some x) xs) none) ≡ final (map v (x ∷ xs))
  last_of x [] = refl
  last_of x (y ∷ ys) = last_of y ys

  pub last_final : (o : Option A) (r : A) → r ≡ unwrap_or o none → (xs : List A) → o ≡ last_or None xs → v none ≡ [] → v r ≡ final (map v xs)
  last_final o r h [] e z = ap v (h ∙ ap (λ (p : Option A). unwrap_or p none) e) ∙ z
  last_final o r h (x ∷ xs) e z = ap v (h ∙ ap (λ (p : Option A). unwrap_or p none) e) ∙ last_of x xs

-- the words before the first that is another's are as many as its place
pub place_passed : (ws : List (List ℕ)) (word : List ℕ) → prefix_len (λ w. not (bytes_eq w word)) ws ≡ place_in ws word
place_passed [] word = refl
place_passed (w ∷ ws) word = rw (same_bytes w word) (go (same w word) (place_passed ws word))
  where
    go : (t : Bool) → prefix_len (λ w. not (bytes_eq w word)) ws ≡ place_in ws word → cond (not t) (1 + prefix_len (λ w. not (bytes_eq w word)) ws) 0 ≡ cond t 0 (suc (place_in ws word))
    go true h = refl
    go false h = omega arith

-- a place is that of a word, or their number
place_few : (ws : List (List ℕ)) (word : List ℕ) → place_in ws word ≤ length ws
place_few [] word = omega arith
place_few (w ∷ ws) word = go (same w word) (place_few ws word)
  where
    go : (b : Bool) → place_in ws word ≤ length ws → cond b 0 (suc (place_in ws word)) ≤ suc (length ws)
    go true h = omega arith
    go false h = omega arith

pub place_bound : (table word : List ℕ) {r : ℕ} → r ≡ place_of table word → r ≤ word_count table
unfolding place_of
place_bound table word e = rw e (place_few (words_of table) word)

-- a place that was found is below the number of words, and one that was not found is not
below_is : (n k : ℕ) (b : Bool) → ltb k n ≡ b → (o : Option ℕ) → o ≡ cond b (Some k) None → ((m : ℕ) → o ≡ Some m → (m ≡ k) × (k < n)) × (o ≡ None → n ≤ k)
below_is n k true t o e = (λ m h. (same_Some m k (sym h ∙ e), ltb-true k n t), λ h. absurd (none-some k (sym h ∙ e)))
below_is n k false t o e = (λ m h. absurd (none-some m (sym e ∙ h)), λ h. ltb-false k n t)

module _ (n k : ℕ) {o : Option ℕ} (e : o ≡ below n k) where
  pub below_some : (m : ℕ) → o ≡ Some m → (m ≡ k) × (k < n)
  below_some = (below_is n k (ltb k n) refl o e).0

  pub below_none : o ≡ None → n ≤ k
  below_none = (below_is n k (ltb k n) refl o e).1

-- what is read at a place of a list
pub copied_at : {A : Type 0} (xs : List A) (i : ℕ) (r : Option (Bor A)) → IsItemAt xs i r → option_copied r ≡ slice_get xs i
copied_at xs i None h = sym (slice_get_past xs i h.3)
copied_at xs i (Some x) h = sym (slice_get_read xs (length xs) i x.now refl h.3.0 h.1)
