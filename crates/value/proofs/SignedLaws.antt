-- A signed 32-bit integer and its stored number.
use mathlib.Core.Path.{◌≡◌, sym, ap, ◌∙◌, subst}
use Prim.Native.Nat.{◌^◌, ◌<◌}
use native.Mathlib.Omega.{arith}
use borrow.Author.Tests.{lt-ltb}
use mathlib.Core.Bool.{true}
use lib.Dec.{T}
use lib.IntN.{ℤ, pos, negsuc, nat_abs, ◌+ℤ◌}
use lib.Signed.{non_neg}
use mir.Syntax.{w32, w64}
use mir.Val.{Fits, SFits, to_z, of_z}
use mir.ValLaws.{to_z-of_z}
use Rattle.value.specs.Integer.{biased_integer, is_signed32}
use Rattle.value.proofs.IntegerLaws.{biased_is}

sum_is : (z : ℤ) → SFits w32 z → z +ℤ pos (2 ^ 31) ≡ pos (biased_integer z)
sum_is z h = sym (biased_is z h.sfits)

-- what an i32 holds is signed 32-bit
pub fits_signed32 : (z : ℤ) → SFits w32 z → is_signed32 z ≡ true
fits_signed32 (pos n) h = lt-ltb n (2 ^ 31) (omega arith)
fits_signed32 (negsuc n) h = lt-ltb n (2 ^ 31) (omega arith)

pub biased_lt : (z : ℤ) → SFits w32 z → biased_integer z < 2 ^ 32
biased_lt (pos n) h = omega arith
biased_lt (negsuc n) h = omega arith

pub widens : (z : ℤ) → SFits w32 z → SFits w64 z
widens z h = let l = h.sfits in record { sfits = omega arith }

module _ (z : ℤ) (h : SFits w32 z) where
  -- the value as the machine has it after the casts, and after the sum
  pub wide_is : to_z w64 (of_z w64 (to_z w32 (of_z w32 z))) ≡ z
  wide_is = ap (λ (k : ℤ). to_z w64 (of_z w64 k)) (to_z-of_z w32 z h) ∙ to_z-of_z w64 z (widens z h)

  sum_wide : to_z w64 (of_z w64 (to_z w32 (of_z w32 z))) +ℤ pos (2 ^ 31) ≡ pos (biased_integer z)
  sum_wide = ap (λ (k : ℤ). k +ℤ pos (2 ^ 31)) wide_is ∙ sum_is z h

  pub cast_fits : SFits w64 (to_z w32 (of_z w32 z))
  cast_fits = rw (to_z-of_z w32 z h) (widens z h)

  small : SFits w64 (pos (biased_integer z))
  small = let l = biased_lt z h in record { sfits = omega arith }

  pub sum_fits : SFits w64 (to_z w64 (of_z w64 (to_z w32 (of_z w32 z))) +ℤ pos (2 ^ 31))
  sum_fits = subst (λ (k : ℤ). SFits w64 k) (sym sum_wide) small

  pub stored_is : to_z w64 (of_z w64 (to_z w64 (of_z w64 (to_z w32 (of_z w32 z))) +ℤ pos (2 ^ 31))) ≡ pos (biased_integer z)
  stored_is = ap (λ (k : ℤ). to_z w64 (of_z w64 k)) sum_wide ∙ to_z-of_z w64 (pos (biased_integer z)) small

  pub stored_fits_lem : T (non_neg (pos (biased_integer z))) × Fits w64 (nat_abs (pos (biased_integer z)))
  stored_fits_lem = let l = biased_lt z h in (tt, record { fits = omega arith })
