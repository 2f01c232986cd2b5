-- Readings by the place of their word in the table: the words that a definition asks one after another, and what it says of each.
use Prim.Native.Nat.{ℕ, suc}
use native.Mathlib.Omega.{arith}
use mathlib.Core.Path.{◌≡◌, refl, sym, ap, ◌∙◌}
use mathlib.Core.Bool.{Bool, true, false, cond}
use mathlib.Core.List.{List, [], ◌∷◌}
use lib.ListN.{length, get_or, get_or-eq_default}
use Rattle.std.specs.Prelude.{Some, None, Option}
use Rattle.output.specs.Text.{text, same}
use Rattle.output.specs.Read.{read_decimal, read_integer}
use Rattle.texts.specs.Table.{words_of, place_in, place_of, below}
use Rattle.texts.proofs.TableLaws.{below_some, below_none}
use Rattle.value.specs.declared.Reading.{Reading}
use Rattle.value.specs.declared.Reading.TheVariants.{Boolean, Option as Choice, Timestamp, Failure, Unreachable, Inactive}
use Rattle.machine.proofs.TestLaws.{eqb_sym}
use Rattle.input.specs.Words.{integer_of}
use Rattle.in_hex.specs.Hex.{bits_of}
use Rattle.script.specs.Script.{at_most, integer_given, float_of, reading_of, without_value, without_number, given}

same_flip : (a b : List ℕ) → same a b ≡ same b a
same_flip [] [] = refl
same_flip [] (y ∷ b) = refl
same_flip (x ∷ a) [] = refl
same_flip (x ∷ a) (y ∷ b) = rw (eqb_sym x y, same_flip a b)

-- what stands beside the first word that it is
abbrev beside : List (List ℕ) → List (Option Reading) → List ℕ → Option Reading
beside [] gs word = None
beside (w ∷ ws) [] word = None
beside (w ∷ ws) (g ∷ gs) word = cond (same word w) g (beside ws gs word)

beside_at : (ws : List (List ℕ)) (gs : List (Option Reading)) (word : List ℕ) → length ws ≡ length gs → beside ws gs word ≡ get_or gs (place_in ws word) None
beside_at [] [] word e = refl
beside_at [] (g ∷ gs) word e = absurd (omega arith)
beside_at (w ∷ ws) [] word e = absurd (omega arith)
beside_at (w ∷ ws) (g ∷ gs) word e = rw (same_flip word w) (go (same w word) (beside_at ws gs word (omega arith)))
  where
    go : (b : Bool) → beside ws gs word ≡ get_or gs (place_in ws word) None → cond b g (beside ws gs word) ≡ get_or (g ∷ gs) (cond b 0 (suc (place_in ws word))) None
    go true h = refl
    go false h = h

abbrev table : List ℕ
table = text "integer|float|boolean|option|timestamp|failure|unreachable|inactive"

-- what each word of the table makes of a value's text
abbrev readings : List ℕ → List (Option Reading)
readings t =
    integer_given (integer_of (read_integer t))
    ∷ float_of (bits_of t)
    ∷ reading_of Boolean (at_most 255 (read_decimal t))
    ∷ reading_of Choice (at_most 255 (read_decimal t))
    ∷ reading_of Timestamp (read_decimal t)
    ∷ without_value Failure t
    ∷ without_value Unreachable t
    ∷ without_value Inactive t
    ∷ []

kind_at : (kind t : List ℕ) → get_or (readings t) (place_of table kind) None ≡ given kind t
unfolding place_of given without_number
kind_at kind t = sym (beside_at (words_of table) (readings t) kind refl)

-- place: where the word was found
module _ (kind t : List ℕ) {place : Option ℕ} (e : place ≡ below 8 (place_of table kind)) where
  pub by_kind : {k : ℕ} (n : ℕ) → place ≡ Some k → k ≡ n → get_or (readings t) n None ≡ given kind t
  by_kind {k} n h is = ap (λ (x : ℕ). get_or (readings t) x None) (sym is ∙ (below_some 8 (place_of table kind) e k h).0) ∙ kind_at kind t

  pub no_kind : place ≡ None → None ≡ given kind t
  no_kind h = sym (get_or-eq_default (readings t) None (below_none 8 (place_of table kind) e h)) ∙ kind_at kind t
