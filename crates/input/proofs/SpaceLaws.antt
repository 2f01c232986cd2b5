-- A line at its spaces: the words, and the count.
use Prim.Native.Nat.{ℕ, zero, suc}
use Rattle.std.proofs.lemmas.List.Sums.{length-filter}
use mathlib.Core.Path.{◌≡◌, refl, sym, ap, ◌∙◌}
use mathlib.Core.Bool.{Bool, true, false, cond, not}
use mathlib.Core.List.{List, [], ◌∷◌}
use Rattle.std.specs.Prelude.{Option, Some, None, count_by}
use Rattle.std.specs.List.{slice_split, onto_first, filter}
use Rattle.std.specs.Option.{option_map, unwrap_or}
use lib.Dec.{eqb}
use lib.ListN.{length, get_or, drop}
use Rattle.output.specs.Text.{behind_run}
use Rattle.output.specs.Read.{other, up_to, past}
use Rattle.input.specs.Words.{behind_spaces, word_at, spaces}

-- a space
abbrev pub is_space : ℕ → Bool
is_space b = eqb b 32

-- ---- the words are the parts between the spaces

first_more : (b k : ℕ) (ws : List (List ℕ)) → get_or (onto_first b ws) (suc k) [] ≡ get_or ws (suc k) []
first_more b k [] = refl
first_more b k (w ∷ ws) = refl

first_longer : (b : ℕ) (ws : List (List ℕ)) → get_or (onto_first b ws) 0 [] ≡ b ∷ get_or ws 0 []
first_longer b [] = refl
first_longer b (w ∷ ws) = refl

split_head : (t : List ℕ) → get_or (slice_split is_space t) 0 [] ≡ up_to 32 t
split_head [] = refl
split_head (b ∷ t) = go (is_space b) (split_head t)
  where
    go : (s : Bool) → get_or (slice_split is_space t) 0 [] ≡ up_to 32 t → get_or (cond s ([] ∷ slice_split is_space t) (onto_first b (slice_split is_space t))) 0 [] ≡ cond (not s) (b ∷ up_to 32 t) []
    go true h = refl
    go false h = first_longer b (slice_split is_space t) ∙ ap (λ (l : List ℕ). b ∷ l) h

split_tail : (t : List ℕ) (k : ℕ) → get_or (slice_split is_space t) (suc k) [] ≡ get_or (slice_split is_space (past 32 t)) k []
split_tail [] zero = refl
split_tail [] (suc k) = refl
split_tail (b ∷ t) k = go (is_space b) (split_tail t k)
  where
    go : (s : Bool) → get_or (slice_split is_space t) (suc k) [] ≡ get_or (slice_split is_space (past 32 t)) k [] → get_or (cond s ([] ∷ slice_split is_space t) (onto_first b (slice_split is_space t))) (suc k) [] ≡ get_or (slice_split is_space (drop 1 (cond (not s) (behind_run (other 32) t) (b ∷ t)))) k []
    go true h = refl
    go false h = first_more b k (slice_split is_space t) ∙ h

split_at : (k : ℕ) (t : List ℕ) → get_or (slice_split is_space t) k [] ≡ up_to 32 (behind_spaces k t)
split_at zero t = split_head t
split_at (suc k) t = split_tail t k ∙ split_at k (past 32 t)

pub split_word : (k : ℕ) (t : List ℕ) → get_or (slice_split is_space t) k [] ≡ word_at k t
unfolding word_at
split_word k t = split_at k t

-- the value that is found, or the one that stands for none
pub found_or : {A B : Type 0} (v : A → B) (o : Option A) (d r : A) {p : Option B} → r ≡ unwrap_or o d → option_map v o ≡ p → v r ≡ unwrap_or p (v d)
found_or {A} {B} v None d r e h = ap v e ∙ ap (λ (q : Option B). unwrap_or q (v d)) h
found_or {A} {B} v (Some x) d r e h = ap v e ∙ ap (λ (q : Option B). unwrap_or q (v d)) h

-- ---- the count

filtered : (s : List ℕ) → length (filter is_space s) ≡ spaces s
filtered [] = refl
filtered (b ∷ s) = go (is_space b) (filtered s)
  where
    go : (t : Bool) → length (filter is_space s) ≡ spaces s → length (cond t (b ∷ filter is_space s) (filter is_space s)) ≡ cond t (suc (spaces s)) (spaces s)
    go true h = ap suc h
    go false h = h

pub spaces_counted : (s : List ℕ) → count_by is_space s ≡ spaces s
spaces_counted s = sym (length-filter is_space s) ∙ filtered s
