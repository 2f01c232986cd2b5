-- That `biased_integer` means what it should.
use mathlib.Core.Path.{◌≡◌, ap}
use Prim.Native.Nat.{suc, ◌^◌, ◌≤◌, ◌<◌}
use native.Mathlib.Omega.{arith}
use lib.IntN.{ℤ, pos, negsuc, ◌+ℤ◌}
use lib.Signed.{mag}
use borrow.Author.Tests.{le-ltb}
use Rattle.value.specs.Integer.{biased_integer}

-- z + 2^31, for -2^31 ≤ z < 2^31
pub biased_is : (z : ℤ) → mag z < 2 ^ 31 → pos (biased_integer z) ≡ z +ℤ pos (2 ^ 31)
biased_is (pos n) h = ap pos (omega arith)
biased_is (negsuc n) h = let l : suc n ≤ 2 ^ 31 = omega arith in rw (le-ltb (2 ^ 31) (suc n) l)
