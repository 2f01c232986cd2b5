-- All places below a count: none of them is past it, none is there twice.
use Prim.Native.Nat.{ℕ, zero, suc, ◌<◌}
use native.Mathlib.Omega.{arith}
use mathlib.Core.Path.{◌≡◌, refl}
use mathlib.Core.Bool.{Bool, false}
use lib.Dec.{eqb, leb}
use borrow.Author.Tests.{lt-leb, ne_eqb}
use Rattle.machine.specs.Places.{tabulate, any, has, twice}
use Rattle.machine.proofs.AnyLaws.{any_and, twice_and}

-- a test that fails at each of them
none_passes : (f : ℕ → Bool) (n : ℕ) → ((j : ℕ) → j < n → f j ≡ false) → any f (tabulate (λ j. j) n) ≡ false
unfolding any tabulate
none_passes f zero h = refl
none_passes f (suc n) h = rw (any_and f (tabulate (λ j. j) n) n, none_passes f n (λ j l. h j (omega arith)), h n (omega arith))

pub none_past : (n : ℕ) → any (leb n) (tabulate (λ j. j) n) ≡ false
none_past n = none_passes (leb n) n (λ j l. lt-leb n j l)

pub none_twice : (n : ℕ) → twice (tabulate (λ j. j) n) ≡ false
unfolding twice has tabulate
none_twice zero = refl
none_twice (suc n) = rw (twice_and (tabulate (λ j. j) n) n, none_twice n, none_passes (eqb n) n (λ j l. ne_eqb n j (λ e. omega arith)))
