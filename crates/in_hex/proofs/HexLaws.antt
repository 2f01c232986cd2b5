-- The number that a row of digits makes.
use Prim.Native.Nat.{ℕ, ◌^◌, ◌<◌, ◌≤◌}
use native.Mathlib.Nat.{pow-le-pow_right}
use native.Mathlib.Omega.{arith}

pub below_15 : (n i : ℕ) → n < 16 ^ i → i ≤ 15 → n < 16 ^ 15
below_15 n i h k = let l : 16 ^ i ≤ 16 ^ 15 = pow-le-pow_right (omega arith) k in omega arith
