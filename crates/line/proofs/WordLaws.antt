-- The words of a line: the first word, and the next one of what is left.
use Prim.Native.Nat.{ℕ, suc, ◌≤◌}
use mathlib.Core.Path.{◌≡◌, refl, sym, ap, ◌∙◌}
use mathlib.Core.Bool.{Bool, true, false, not, cond}
use mathlib.Core.List.{List, [], ◌∷◌}
use native.Mathlib.Omega.{arith}
use lib.ListN.{length, take, drop, drop_of_length-le}
use Rattle.output.specs.Text.{run}
use Rattle.output.proofs.RunLaws.{run_le, run_take}
use Rattle.line.specs.Line.{blank, word_byte, word, words, behind}
use Rattle.line.specs.Answer.{lead}

pub first_word : (s : List ℕ) (e : ℕ) → e ≡ length (word s) → take e s ≡ word s
first_word s e h = ap (λ (n : ℕ). take n s) h ∙ run_take word_byte s

-- the words behind the first blank are those from the end of the first word on
pub behind_words : (s : List ℕ) → behind s ≡ words (drop (length (word s)) s)
behind_words [] = refl
behind_words (b ∷ s) = go (blank b) refl (behind_words s)
  where
    go : (t : Bool) → blank b ≡ t → behind s ≡ words (drop (length (word s)) s)
        → cond t (words s) (behind s) ≡ words (drop (length (cond (not t) (b ∷ word s) [])) (b ∷ s))
    go true e h = rw e
    go false e h = h

-- w, where it is no empty word, and then ws
abbrev first : List ℕ → List (List ℕ) → List (List ℕ)
first [] ws = ws
first (b ∷ w) ws = (b ∷ w) ∷ ws

-- blanks in front make no word
lead_words : (s : List ℕ) → words s ≡ first (word (drop (lead s) s)) (words (drop (length (word (drop (lead s) s))) (drop (lead s) s)))
lead_words [] = refl
lead_words (b ∷ s) = go (blank b) refl (lead_words s)
  where
    rest : List ℕ → List (List ℕ)
    rest u = first (word u) (words (drop (length (word u)) u))

    go : (t : Bool) → blank b ≡ t → words s ≡ rest (drop (lead s) s)
        → cond t (words s) ((b ∷ word s) ∷ behind s) ≡ rest (drop (length (cond t (b ∷ run blank s) [])) (b ∷ s))
    go true e h = h
    go false e h = rw e (ap (λ (l : List (List ℕ)). (b ∷ word s) ∷ l) (behind_words s))

-- no word behind the blanks: the list ends there
no_word : (s : List ℕ) → length (word (drop (lead s) s)) ≡ 0 → lead s ≡ length s
no_word [] h = refl
no_word (b ∷ s) h = go (blank b) refl (no_word s) h
  where
    go : (t : Bool) → blank b ≡ t → (length (word (drop (lead s) s)) ≡ 0 → lead s ≡ length s)
        → length (word (drop (length (cond t (b ∷ run blank s) [])) (b ∷ s))) ≡ 0 → length (cond t (b ∷ run blank s) []) ≡ suc (length s)
    go true e ih z = ap suc (ih z)
    go false e ih z = absurd (let q : suc (length (word s)) ≡ 0 = rw e at z in omega arith)

first_some : (w : List ℕ) (ws : List (List ℕ)) → (length w ≡ 0 → ⊥) → first w ws ≡ w ∷ ws
first_some [] ws ne = absurd (ne refl)
first_some (b ∷ w) ws ne = refl

-- u is what stands behind the blanks of s
module _ (s : List ℕ) {u : List ℕ} (e : u ≡ drop (lead s) s) where
  words_are : words s ≡ first (word u) (words (drop (length (word u)) u))
  words_are = lead_words s ∙ ap (λ (q : List ℕ). first (word q) (words (drop (length (word q)) q))) (sym e)

  pub no_next : {n : ℕ} → n ≡ length (word u) → n ≡ 0 → words s ≡ []
  no_next {n} f z = go (word u) (sym f ∙ z) words_are
    where
      q : u ≡ []
      q = e ∙ ap (λ (k : ℕ). drop k s) (no_word s (ap (λ (l : List ℕ). length (word l)) (sym e) ∙ sym f ∙ z)) ∙ drop_of_length-le s (omega arith)

      go : (w : List ℕ) → length w ≡ 0 → words s ≡ first w (words (drop (length w) u)) → words s ≡ []
      go [] z h = h ∙ ap words q
      go (b ∷ w) z h = absurd (omega arith)

  pub next : {n : ℕ} → n ≡ length (word u) → (n ≡ 0 → ⊥) → words s ≡ take n u ∷ words (drop n u)
  next {n} f ne = words_are
      ∙ first_some (word u) (words (drop (length (word u)) u)) (λ z. ne (f ∙ z))
      ∙ ap (λ (w : List ℕ). w ∷ words (drop (length (word u)) u)) (sym (run_take word_byte u))
      ∙ ap (λ (k : ℕ). take k u ∷ words (drop k u)) (sym f)

  pub fits : {n : ℕ} → n ≡ length (word u) → n ≤ length u
  fits f = omega (arith, f, run_le word_byte u)
