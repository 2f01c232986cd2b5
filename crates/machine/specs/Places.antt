-- Lists by place: what is left at each place, what is sent for each place, a test of each place.
use Rattle.std.specs.Prelude.{ℕ, zero, suc, Bool, true, false, cond, ◌&&◌, ◌||◌, List, [], ◌∷◌, ◌++◌, eqb, ltb}

module _ {A : Type 0} where
  -- f 0, f 1, .. f (n - 1)
  unfoldable pub tabulate : (ℕ → A) → ℕ → List A
  tabulate f zero = []
  tabulate f (suc n) = tabulate f n ++ (f n ∷ [])

  -- f 0 and f 1 and .. f (n - 1), one after another
  unfoldable pub gather : (ℕ → List A) → ℕ → List A
  gather f zero = []
  gather f (suc n) = gather f n ++ f n

  -- x, where the test holds
  abbrev pub one_if : Bool → A → List A
  one_if true x = x ∷ []
  one_if false x = []

  -- some element passes the test
  unfoldable pub any : (A → Bool) → List A → Bool
  any f [] = false
  any f (x ∷ xs) = f x || any f xs

  -- those that pass the test, in order
  unfoldable pub only : (A → Bool) → List A → List A
  only f [] = []
  only f (x ∷ xs) = cond (f x) (x ∷ only f xs) (only f xs)

  -- from the first that passes the test on
  unfoldable pub from_first : (A → Bool) → List A → List A
  from_first f [] = []
  from_first f (x ∷ xs) = cond (f x) (x ∷ xs) (from_first f xs)

-- the test holds at each place below n
unfoldable pub all_below : (ℕ → Bool) → ℕ → Bool
all_below f zero = true
all_below f (suc n) = all_below f n && f n

-- the first place below n where the test holds, else n
unfoldable pub first_below : (ℕ → Bool) → ℕ → ℕ
first_below f zero = 0
first_below f (suc n) = cond (ltb (first_below f n) n) (first_below f n) (cond (f n) n (suc n))

-- the number is in the list
unfoldable pub has : ℕ → List ℕ → Bool
has k js = any (eqb k) js

-- some number is in the list twice
unfoldable pub twice : List ℕ → Bool
twice [] = false
twice (j ∷ js) = has j js || twice js

module _ {A : Type 0} where
  -- P holds of each element
  abbrev pub Each : (A → Type 0) → List A → Type 0
  Each P [] = Unit
  Each P (x ∷ xs) = P x × Each P xs

  -- lists one after another
  abbrev pub joined : List (List A) → List A
  joined [] = []
  joined (l ∷ ls) = l ++ joined ls

-- the number is 0
abbrev pub is_zero : ℕ → Bool
is_zero zero = true
is_zero (suc n) = false
