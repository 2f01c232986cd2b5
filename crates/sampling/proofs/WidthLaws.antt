-- A distance is more than a difference: by quotients, which cannot wrap, as by products.
use Prim.Native.Nat.{ℕ, ◌+◌, ◌*◌, ◌/◌, ◌%◌, ◌<◌}
use native.Mathlib.Omega.{arith}
use mathlib.Core.Path.{◌≡◌}
use lib.Dec.{ltb}
use borrow.Author.Tests.{lt-ltb, ltb-true}
use Rattle.machine.proofs.TestLaws.{test_same}

-- two tests on numbers
same_ltb : (a b c d : ℕ) → (a < b → c < d) → (c < d → a < b) → ltb a b ≡ ltb c d
same_ltb a b c d h k = test_same (ltb a b) (ltb c d) (λ t. lt-ltb c d (h (ltb-true a b t))) (λ t. lt-ltb a b (k (ltb-true c d t)))

-- of floats: units of 1/1024
pub by_quotients : (d a : ℕ) → ltb (16 * (d / 15625) + 16 * (d % 15625) / 15625) a ≡ ltb (d * 1024) (a * 1000000)
by_quotients d a =
    same_ltb (16 * (d / 15625) + 16 * (d % 15625) / 15625) a (d * 1024) (a * 1000000) (λ h. omega arith) (λ h. omega arith)

-- of integers
pub by_quotient : (d a : ℕ) → ltb (d / 1000000) a ≡ ltb d (a * 1000000)
by_quotient d a = same_ltb (d / 1000000) a d (a * 1000000) (λ h. omega arith) (λ h. omega arith)
