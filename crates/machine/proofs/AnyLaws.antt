-- A test of some element, over a list that grows at its end.
use Prim.Native.Nat.{ℕ, ◌+◌, ◌<◌}
use native.Mathlib.Numerals.{add-one}
use mathlib.Core.Path.{◌≡◌, refl, ap, sym, ◌∙◌}
use mathlib.Core.Bool.{Bool, true, false, ◌||◌, or-false, or_assoc}
use mathlib.Core.List.{List, [], ◌∷◌, ◌++◌}
use lib.Dec.{eqb}
use lib.ListN.{length, take, get_or}
use lib.Seq.{take-suc}
use Rattle.machine.specs.Places.{any, has, twice}
use Rattle.machine.proofs.TestLaws.{eqb_sym}

module _ {A : Type 0} (f : A → Bool) where
  pub any_append : (xs ys : List A) → any f (xs ++ ys) ≡ (any f xs || any f ys)
  unfolding any
  any_append [] ys = refl
  any_append (x ∷ xs) ys = ap (λ b. f x || b) (any_append xs ys) ∙ sym (or_assoc (f x) (any f xs) (any f ys))

  -- one element more
  pub any_and : (xs : List A) (x : A) → any f (xs ++ (x ∷ [])) ≡ (any f xs || f x)
  unfolding any
  any_and xs x = any_append xs (x ∷ []) ∙ ap (λ b. any f xs || b) (or-false (f x))

  pub any_more : (xs : List A) (k : ℕ) (d : A) → k < length xs → any f (take (k + 1) xs) ≡ (any f (take k xs) || f (get_or xs k d))
  any_more xs k d h = rw (add-one, take-suc xs k d) (any_and (take k xs) (get_or xs k d))

or_swap : (a b c d : Bool) → ((a || b) || (c || d)) ≡ ((a || c) || (b || d))
or_swap true b c d = refl
or_swap false true true d = refl
or_swap false true false d = refl
or_swap false false c d = refl

-- a list has a number twice with one more: it had, or it has that number
pub twice_and : (js : List ℕ) (j : ℕ) → twice (js ++ (j ∷ [])) ≡ (twice js || has j js)
unfolding twice has any
twice_and [] j = refl
twice_and (i ∷ js) j =
    ap (λ b. b || twice (js ++ (j ∷ []))) (any_and (eqb i) js j)
    ∙ ap (λ b. (any (eqb i) js || eqb i j) || b) (twice_and js j)
    ∙ or_swap (any (eqb i) js) (eqb i j) (twice js) (has j js)
    ∙ ap (λ b. (any (eqb i) js || twice js) || (b || has j js)) (eqb_sym i j)
