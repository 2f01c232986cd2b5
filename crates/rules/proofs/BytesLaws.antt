-- The pass over bytes, each of a kind.
use Prim.Native.Nat.{ℕ, ◌+◌, ◌<◌, ◌≤◌}
use native.Mathlib.Omega.{arith}
use mathlib.Core.Path.{◌≡◌, refl}
use mathlib.Core.Bool.{Bool, true, ◌&&◌}
use mathlib.Core.List.{List}
use lib.ListN.{length, drop, get_or, drop_of_length-le}
use Rattle.output.specs.Text.{all}
use Rattle.texts.proofs.At.{at}
use Rattle.texts.proofs.PassLaws.{found_on, found_end}

pub record Passing (is : ℕ → Bool) (bytes : List ℕ) (ok : Bool) (i : ℕ) : Type 0 where
  pub inside : i ≤ length bytes
  pub found : (ok && all is (drop i bytes)) ≡ all is bytes

pub passing : (is : ℕ → Bool) (bytes : List ℕ) → Passing is bytes true 0
passing is bytes = record { inside = omega arith; found = refl }

module _ {is : ℕ → Bool} {bytes : List ℕ} {ok : Bool} {i : ℕ} (f : Passing is bytes ok i) where
  pub passing_on : i < length bytes → Passing is bytes (ok && is (get_or bytes i 0)) (i + 1)
  passing_on h = record {
    inside = omega arith;
    found = found_on ok (is (get_or bytes i 0)) (all is (drop (i + 1) bytes)) (all is (drop i bytes)) (all is bytes) f.found (rw (at bytes i h));
  }

  pub passing_end : length bytes ≤ i → ok ≡ all is bytes
  passing_end h = found_end ok (all is (drop i bytes)) (all is bytes) f.found (rw (drop_of_length-le bytes h))
