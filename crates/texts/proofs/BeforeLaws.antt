-- What stands before the first x of a text, and behind it.
use Prim.Native.Nat.{ℕ, ◌+◌, ◌-◌, ◌≤◌}
use mathlib.Core.Path.{◌≡◌, ap, ◌∙◌}
use mathlib.Core.List.{List}
use native.Mathlib.Omega.{arith}
use lib.ListN.{length, take, drop, length-drop}
use Rattle.output.specs.Read.{other, up_to}
use Rattle.output.proofs.RunLaws.{run_le, run_take}
use Rattle.texts.proofs.At.{to_end}

-- from a position on it ends within the text: what a caller of `len_before` on `&s[at..]` needs
pub before_fits : (x : ℕ) (s : List ℕ) (at r : ℕ) → at ≤ length s → r ≡ length (up_to x (take (length s - at) (drop at s))) → at + r ≤ length s
before_fits x s at r h e =
    let q : r ≡ length (up_to x (drop at s)) = e ∙ ap (λ (l : List ℕ). length (up_to x l)) (to_end s at) in
    omega (arith, run_le (other x) (drop at s), length-drop at s)

module _ (x : ℕ) (s : List ℕ) (n : ℕ) (before : n ≡ length (up_to x s)) where
  pub before_within : n ≤ length s
  before_within = rw before (run_le (other x) s)

  pub before_is : take n s ≡ up_to x s
  before_is = rw before (run_take (other x) s)
