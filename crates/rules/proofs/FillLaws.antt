-- The pass over a text in its array: its bytes, and the zeros behind it.
use Prim.Native.Nat.{ℕ, suc, ◌+◌, ◌-◌, ◌<◌, ◌≤◌}
use native.Mathlib.Omega.{arith}
use mathlib.Core.Path.{◌≡◌, refl}
use mathlib.Core.Bool.{Bool, true, false, not, ◌&&◌, ◌||◌, and_assoc, or-false}
use mathlib.Core.List.{List}
use lib.Dec.{eqb, ltb}
use lib.ListN.{length, take, drop, get_or, drop_of_length-le}
use lib.Seq.{take-nil, drop-nil}
use borrow.Author.Tests.{ltb-true, ltb-false}
use Rattle.output.specs.Text.{all}
use Rattle.texts.proofs.At.{at}
use Rattle.texts.proofs.PassLaws.{found_on, found_end}
use Rattle.machine.specs.Sheet.{zero_byte}

-- n bytes of a kind, then zeros
abbrev pub filled : (ℕ → Bool) → ℕ → List ℕ → Bool
filled is n bytes = all is (take n bytes) && all zero_byte (drop n bytes)

-- byte i of them
abbrev pub fill_at : (ℕ → Bool) → ℕ → List ℕ → ℕ → Bool
fill_at is n bytes i = (ltb i n && is (get_or bytes i 0)) || (not (ltb i n) && eqb (get_or bytes i 0) 0)

pub record Filling (is : ℕ → Bool) (n : ℕ) (bytes : List ℕ) (ok : Bool) (i : ℕ) : Type 0 where
  pub inside : i ≤ length bytes
  pub found : (ok && filled is (n - i) (drop i bytes)) ≡ filled is n bytes

filled_at : (is : ℕ → Bool) (n : ℕ) (bytes : List ℕ) (i : ℕ) → i < length bytes
    → filled is (n - i) (drop i bytes) ≡ (fill_at is n bytes i && filled is (n - (i + 1)) (drop (i + 1) bytes))
filled_at is n bytes i h = go (ltb i n) refl
  where
    go : (b : Bool) → ltb i n ≡ b → filled is (n - i) (drop i bytes)
        ≡ (((b && is (get_or bytes i 0)) || (not b && eqb (get_or bytes i 0) 0)) && filled is (n - (i + 1)) (drop (i + 1) bytes))
    go true e =
        let l : i < n = ltb-true i n e in
        let k : n - i ≡ suc (n - (i + 1)) = omega arith in
        rw (k, at bytes i h, or-false (is (get_or bytes i 0)))
        (and_assoc (is (get_or bytes i 0)) (all is (take (n - (i + 1)) (drop (i + 1) bytes))) (all zero_byte (drop (n - (i + 1)) (drop (i + 1) bytes))))
    go false e =
        let l : n ≤ i = ltb-false i n e in
        let j : n - i ≡ 0 = omega arith in
        let k : n - (i + 1) ≡ 0 = omega arith in
        rw (j, k, at bytes i h)

pub filling : (is : ℕ → Bool) (n : ℕ) (bytes : List ℕ) → Filling is n bytes true 0
filling is n bytes = record { inside = omega arith; found = let e : n - 0 ≡ n = omega arith in rw e }

module _ {is : ℕ → Bool} {n : ℕ} {bytes : List ℕ} {ok : Bool} {i : ℕ} (f : Filling is n bytes ok i) where
  pub filling_on : i < length bytes → Filling is n bytes (ok && fill_at is n bytes i) (i + 1)
  filling_on h = record {
    inside = omega arith;
    found = found_on ok (fill_at is n bytes i) (filled is (n - (i + 1)) (drop (i + 1) bytes)) (filled is (n - i) (drop i bytes)) (filled is n bytes) f.found (filled_at is n bytes i h);
  }

  pub filling_end : length bytes ≤ i → ok ≡ filled is n bytes
  filling_end h = found_end ok (filled is (n - i) (drop i bytes)) (filled is n bytes) f.found (rw (drop_of_length-le bytes h, take-nil {A = ℕ} (n - i), drop-nil {A = ℕ} (n - i)))
