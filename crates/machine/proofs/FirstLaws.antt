-- The first place where a test holds, found from the start on.
use Prim.Native.Nat.{ℕ, zero, suc, ◌+◌, ◌<◌}
use native.Mathlib.Omega.{arith}
use native.Mathlib.Numerals.{add-one}
use mathlib.Core.Path.{◌≡◌, refl}
use mathlib.Core.Bool.{Bool, true, false}
use lib.Dec.{ltb}
use borrow.Author.Tests.{ltb-true, ltb-false, le-ltb}
use Rattle.machine.specs.Places.{first_below}

module _ (f : ℕ → Bool) (j : ℕ) (e : first_below f j ≡ j) where
  -- the test fails at j too
  pub first_on : f j ≡ false → first_below f (j + 1) ≡ j + 1
  unfolding first_below
  first_on h = rw (add-one, e, le-ltb j j (omega arith), h)

  -- it holds at j
  pub first_at : f j ≡ true → (n : ℕ) → j < n → first_below f n ≡ j
  unfolding first_below
  first_at h zero k = absurd (omega arith)
  first_at h (suc n) k = go (ltb j n) refl (first_at h n)
    where
      go : (b : Bool) → ltb j n ≡ b → (j < n → first_below f n ≡ j) → first_below f (suc n) ≡ j
      go true l ih = rw (ih (ltb-true j n l), l)
      go false l ih = let q : n ≡ j = omega (arith, ltb-false j n l) in rw (q, e, le-ltb j j (omega arith), h)
