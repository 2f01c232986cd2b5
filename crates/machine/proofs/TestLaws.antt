-- Tests and choices.
use Prim.Native.Nat.{ℕ, suc, ◌<◌}
use native.Mathlib.Omega.{arith}
use mathlib.Core.Path.{◌≡◌, refl, ap, sym}
use mathlib.Core.Bool.{Bool, true, false, cond, not, ◌&&◌, ◌||◌, true≢false}
use Rattle.std.specs.Prelude.{Option, None, Some}
use lib.Dec.{eqb}
use borrow.Author.Tests.{eqb-true, eqb-false, eq-eqb, ne_eqb}

pub and_true : (a b : Bool) → (a && b) ≡ true → (a ≡ true) × (b ≡ true)
and_true true b h = (refl, h)
and_true false b h = absurd (true≢false (sym h))

pub and_in : (a b : Bool) → a ≡ true → b ≡ true → (a && b) ≡ true
and_in a b h k = rw (h, k)

pub and_false : (a b : Bool) → (a && b) ≡ false → a ≡ true → b ≡ false
and_false true b h k = h
and_false false b h k = absurd (true≢false (sym k))

pub or_false : (a b : Bool) → (a || b) ≡ false → (a ≡ false) × (b ≡ false)
or_false true b h = absurd (true≢false h)
or_false false b h = (refl, h)

pub or_true : (P : Type 0) (a b : Bool) → (a || b) ≡ true → (a ≡ true → P) → (b ≡ true → P) → P
or_true P true b h f g = f refl
or_true P false b h f g = g h

pub or_in : (a b : Bool) → b ≡ true → (a || b) ≡ true
or_in true b h = refl
or_in false b h = h

-- tests that hold one where the other does
pub test_same : (a b : Bool) → (a ≡ true → b ≡ true) → (b ≡ true → a ≡ true) → a ≡ b
test_same true b h k = sym (h refl)
test_same false true h k = k refl
test_same false false h k = refl

-- a test that stands behind two others may be put for another where those hold
pub and_then : (a b c d : Bool) → (a ≡ true → b ≡ true → c ≡ d) → (a && (b && c)) ≡ (a && (b && d))
and_then true true c d h = h refl refl
and_then true false c d h = refl
and_then false b c d h = refl

module _ {A : Type 0} where
  pub cond_either : (P : A → Type 0) (b : Bool) (x y : A) → P x → P y → P (cond b x y)
  cond_either P true x y h k = h
  cond_either P false x y h k = k

  pub cond_cases : (P : A → Type 0) (b : Bool) (x y : A) → (b ≡ true → P x) → (b ≡ false → P y) → P (cond b x y)
  cond_cases P true x y h k = h refl
  cond_cases P false x y h k = k refl

  pub cond_not : (b : Bool) (x y : A) → cond (not b) x y ≡ cond b y x
  cond_not true x y = refl
  cond_not false x y = refl

  pub cond_same : (b : Bool) (x : A) → cond b x x ≡ x
  cond_same true x = refl
  cond_same false x = refl

module _ {A : Type 0} where
  pub cond_true : (b : Bool) (x y : A) → b ≡ true → cond b x y ≡ x
  cond_true true x y h = refl
  cond_true false x y h = absurd (true≢false (sym h))

  pub cond_false : (b : Bool) (x y : A) → b ≡ false → cond b x y ≡ y
  cond_false true x y h = absurd (true≢false h)
  cond_false false x y h = refl

pub cond_ap : {A B : Type 0} (f : A → B) (b : Bool) (x y : A) → f (cond b x y) ≡ cond b (f x) (f y)
cond_ap f true x y = refl
cond_ap f false x y = refl

module _ {A : Type 0} where
  abbrev is_there : Option A → Bool
  is_there None = false
  is_there (Some x) = true

  pub none_some : (x : A) → None ≡ Some x → ⊥
  none_some x e = true≢false (sym (ap is_there e))

-- a row of a table that did not decline
pub passed : (b : Bool) (n m : ℕ) → 0 < n → cond b n m ≡ 0 → (b ≡ false) × (m ≡ 0)
passed true n m h e = absurd (omega arith)
passed false n m h e = (refl, e)

-- a row that declines where its test fails
pub fitted : (b : Bool) (n m : ℕ) → 0 < n → cond b m n ≡ 0 → (b ≡ true) × (m ≡ 0)
fitted true n m h e = (refl, e)
fitted false n m h e = absurd (omega arith)

-- a number behind 0 is not 0
pub not_none : (n : ℕ) → eqb (suc n) 0 ≡ false
not_none n = ne_eqb (suc n) 0 (λ z. omega arith)

pub eqb_sym : (x y : ℕ) → eqb x y ≡ eqb y x
eqb_sym x y = go (eqb y x) refl
  where
    go : (b : Bool) → eqb y x ≡ b → eqb x y ≡ b
    go true e = eq-eqb x y (sym (eqb-true y x e))
    go false e = ne_eqb x y (λ q. eqb-false y x e (sym q))

pub eqb_refl : (x : ℕ) → eqb x x ≡ true
eqb_refl x = eq-eqb x x refl
