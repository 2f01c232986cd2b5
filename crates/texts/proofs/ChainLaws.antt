-- What chains over bytes count and give, in the words of the definitions.
use Prim.Native.Nat.{ℕ, ◌+◌}
use native.Mathlib.Omega.{arith}
use mathlib.Core.Path.{◌≡◌, refl, ap}
use mathlib.Core.Bool.{Bool, true, false, cond, ◌&&◌}
use mathlib.Core.List.{List, [], ◌∷◌}
use Rattle.std.specs.List.{prefix_len, list_all}
use lib.ListN.{length}
use Rattle.output.specs.Text.{run, all}

-- how many bytes come before the first that fails a test
pub prefix_run : (is : ℕ → Bool) (s : List ℕ) → prefix_len is s ≡ length (run is s)
prefix_run is [] = refl
prefix_run is (b ∷ s) = go (is b) (prefix_run is s)
  where
    go : (t : Bool) → prefix_len is s ≡ length (run is s) → cond t (1 + prefix_len is s) 0 ≡ length (cond t (b ∷ run is s) [])
    go true h = omega arith
    go false h = refl

-- the library's test of each byte
pub all_bytes : (is : ℕ → Bool) (s : List ℕ) → list_all is s ≡ all is s
all_bytes is [] = refl
all_bytes is (b ∷ s) = ap (λ (t : Bool). is b && t) (all_bytes is s)
