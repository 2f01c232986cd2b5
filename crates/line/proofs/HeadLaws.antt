-- The head of a line, by the tests of the code; and the answer of a line from its head and the count of its arguments.
use Rattle.std.specs.Prelude.{None, Some, Option}
use Rattle.line.specs.declared.Header.{Header}
use Prim.Native.Nat.{ℕ, ◌≤◌, ◌<◌}
use mathlib.Core.Path.{◌≡◌, refl, sym, ap, ◌∙◌}
use mathlib.Core.Bool.{Bool, true, false, cond, and-false}
use mathlib.Core.List.{List, [], ◌∷◌}
use native.Mathlib.Omega.{arith}
use borrow.Author.Tests.{le-leb, lt-leb}
use lib.Dec.{leb}
use lib.ListN.{length, drop, get_or, length-map}
use Rattle.output.proofs.RunLaws.{run_drop}
use Rattle.line.specs.Line.{Parse, malformed, letter, title_byte, kind_byte, name_of, after_name, starts_with_letter, name_ok, id_of, with_id, read_head, unescape, all_valid, behind, word, parse}
use Rattle.line.specs.Answer.{answer, with_id_read, named_read, head_read, count_of}

first_letter : (t : List ℕ) → (length (name_of t) ≡ 0 → ⊥) → starts_with_letter (name_of t) ≡ letter (get_or t 0 0)
first_letter [] ne = absurd (ne refl)
first_letter (b ∷ s) ne = go (title_byte b) ne
  where
    go : (t : Bool) → (length (cond t (b ∷ name_of s) []) ≡ 0 → ⊥) → starts_with_letter (cond t (b ∷ name_of s) []) ≡ letter b
    go true ne = refl
    go false ne = absurd (ne refl)

no_letter : (l : List ℕ) → length l ≡ 0 → starts_with_letter l ≡ false
no_letter [] e = refl
no_letter (b ∷ s) e = absurd (omega arith)

module _ (t : List ℕ) (k count n : ℕ) (en : n ≡ length (name_of t)) where
  pub long : 64 < n → None ≡ named_read k t count
  long h =
      let f : leb (length (name_of t)) 64 ≡ false = lt-leb (length (name_of t)) 64 (omega arith) in
      rw f

  pub empty : n ≡ 0 → None ≡ named_read k t count
  empty z =
      let g : starts_with_letter (name_of t) ≡ false = no_letter (name_of t) (sym en ∙ z) in
      rw (g, and-false)

  pub not_letter : (n ≡ 0 → ⊥) → letter (get_or t 0 0) ≡ false → None ≡ named_read k t count
  not_letter z l =
      let g : starts_with_letter (name_of t) ≡ false = first_letter t (λ q. z (en ∙ q)) ∙ l in
      rw (g, and-false)

  -- the identifier m decides
  pub decides : n ≤ 64 → (n ≡ 0 → ⊥) → letter (get_or t 0 0) ≡ true → (m : Option ℕ) → m ≡ id_of (drop n t) → with_id_read k n count m ≡ named_read k t count
  decides h z l m e =
      let f : leb (length (name_of t)) 64 ≡ true = le-leb (length (name_of t)) 64 (omega arith) in
      let g : starts_with_letter (name_of t) ≡ true = first_letter t (λ q. z (en ∙ q)) ∙ l in
      rw (e, f, g, en, ← run_drop title_byte t)

pub no_head : (w : List ℕ) (count : ℕ) → length w ≡ 0 → None ≡ head_read w count
no_head [] count e = refl
no_head (k ∷ t) count e = absurd (omega arith)

pub not_kind : (w : List ℕ) (count : ℕ) → (length w ≡ 0 → ⊥) → kind_byte (get_or w 0 0) ≡ false → None ≡ head_read w count
not_kind [] count ne e = absurd (ne refl)
not_kind (k ∷ t) count ne e = rw e

pub a_kind : (w : List ℕ) (count : ℕ) → (length w ≡ 0 → ⊥) → kind_byte (get_or w 0 0) ≡ true → named_read (get_or w 0 0) (drop 1 w) count ≡ head_read w count
a_kind [] count ne e = absurd (ne refl)
a_kind (k ∷ t) count ne e = rw e

-- the numbers of the answer are those of the message
with_id_lem : (k : ℕ) (n : List ℕ) (m : Option ℕ) (ws : List (List ℕ)) → with_id_read k (length n) (length ws) m ≡ answer (with_id k n m ws)
with_id_lem k n None ws = refl
with_id_lem k n (Some i) ws = rw (length-map ws unescape)

cond_answer : (t : Bool) (x : Parse) (y : Option Header) → y ≡ answer x → cond t y None ≡ answer (cond t x malformed)
cond_answer true x y e = e
cond_answer false x y e = refl

head_answer : (w : List ℕ) (ws : List (List ℕ)) → head_read w (length ws) ≡ answer (read_head w ws)
head_answer [] ws = refl
head_answer (k ∷ t) ws =
    cond_answer (kind_byte k) _ _
    (cond_answer (name_ok (name_of t)) _ _ (with_id_lem k (name_of t) (id_of (after_name t)) ws))

not_counted : (ws : List (List ℕ)) → count_of ws ≡ None → all_valid ws ≡ false
not_counted ws e = go (all_valid ws) e
  where
    go : (t : Bool) → cond t (Some (length ws)) None ≡ None → t ≡ false
    go true e = absurd (let z : ◌≡◌ {A = ℕ} 0 1 = cc in omega arith)
    go false e = refl

is_counted : (ws : List (List ℕ)) (n : ℕ) → count_of ws ≡ Some n → (all_valid ws ≡ true) × (n ≡ length ws)
is_counted ws n e = go (all_valid ws) e
  where
    go : (t : Bool) → cond t (Some (length ws)) None ≡ Some n → (t ≡ true) × (n ≡ length ws)
    go true e = (refl, cc)
    go false e = absurd (let z : ◌≡◌ {A = ℕ} 0 1 = cc in omega arith)

module _ (s : List ℕ) where
  pub too_long : 2048 < length s → None ≡ answer (parse s)
  unfolding parse
  too_long h =
      let f : leb (length s) 2048 ≡ false = lt-leb (length s) 2048 h in
      rw f

  module _ (h : length s ≤ 2048) where
    fits : leb (length s) 2048 ≡ true
    fits = le-leb (length s) 2048 h

    pub refused : count_of (behind s) ≡ None → None ≡ answer (parse s)
    unfolding parse
    refused e = rw (fits, not_counted (behind s) e)

    pub headed : (n : ℕ) → count_of (behind s) ≡ Some n → head_read (word s) n ≡ answer (parse s)
    unfolding parse
    headed n e =
        let v = is_counted (behind s) n e in
        let q : all_valid (behind s) ≡ true = v.0 in
        rw (fits, q) (ap (head_read (word s)) v.1 ∙ head_answer (word s) (behind s))
