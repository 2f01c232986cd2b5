-- Whether some element passes a test, as the library says it.
use Prim.Native.Nat.{ℕ}
use mathlib.Core.Path.{◌≡◌, refl, ap, ◌∙◌}
use mathlib.Core.Bool.{Bool, ◌||◌}
use mathlib.Core.List.{List, [], ◌∷◌}
use lib.Dec.{eqb}
use Rattle.std.specs.List.{list_any}
use Rattle.machine.specs.Places.{any, has}
use Rattle.machine.proofs.TestLaws.{eqb_sym}

module _ {A : Type 0} where
  pub found_any : (f : A → Bool) (xs : List A) → list_any f xs ≡ any f xs
  unfolding any
  found_any f [] = refl
  found_any f (x ∷ xs) = ap (λ b. f x || b) (found_any f xs)

-- a number in a list
pub found_in : (j : ℕ) (js : List ℕ) → list_any (λ i. eqb i j) js ≡ has j js
unfolding has any
found_in j [] = refl
found_in j (i ∷ js) = ap (λ b. b || list_any (λ k. eqb k j) js) (eqb_sym i j) ∙ ap (λ b. eqb j i || b) (found_in j js)
