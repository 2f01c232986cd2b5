-- The last row of a table by number: it stands for every number that is none of those above.
use Prim.Native.Nat.{ℕ, zero, suc, ◌+◌, ◌≤◌}
use native.Mathlib.Omega.{arith}
use mathlib.Core.Path.{◌≡◌}

-- none of m, m + 1, .. m + n - 1, as the last arm of a `match` knows it
abbrev pub NoneOf : ℕ → ℕ → ℕ → Type 0
NoneOf m zero k = Unit
NoneOf m (suc n) k = NoneOf m n k × (k ≡ m + n → ⊥)

pub past_rows : (m n k : ℕ) → m ≤ k → NoneOf m n k → m + n ≤ k
past_rows m zero k h z = omega arith
past_rows m (suc n) k h z = omega (arith, past_rows m n k h z.0, z.1)

-- a table that starts at 0
pub past_all : (n k : ℕ) → NoneOf 0 n k → n ≤ k
past_all n k h = omega (arith, past_rows 0 n k (omega arith) h)
