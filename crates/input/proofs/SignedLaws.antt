-- A signed number that is counted from -2^31, as the machine has it.
use Prim.Native.Nat.{ℕ, suc, ◌-◌, ◌^◌, ◌<◌}
use native.Mathlib.Omega.{arith}
use mathlib.Core.Path.{◌≡◌, refl, sym, ap, ◌∙◌}
use mathlib.Core.Bool.{Bool, true, false, cond}
use mathlib.Core.List.{List}
use Rattle.std.specs.Prelude.{Option, None, Some, Result, Ok, Err}
use Rattle.std.specs.Result.{OkIff, result_ok}
use borrow.Author.Tests.{ltb-true, ltb-false}
use lib.Dec.{ltb}
use lib.IntN.{ℤ, pos, negsuc, ◌-ℤ◌}
use mir.Syntax.{w32, w64}
use mir.Val.{SFits, to_z, of_z}
use mir.ValLaws.{to_z_pos, to_z-of_z}
use Rattle.output.specs.Read.{read_integer}
use Rattle.output.proofs.ReadBack.{integers}
use Rattle.value.proofs.SignedLaws.{widens}
use Rattle.input.specs.Words.{signed_of, integer_of}

pub no_integer : (o : Option ℕ) → None ≡ o → None ≡ integer_of o
no_integer None e = refl
no_integer (Some v) e = let z : ◌≡◌ {A = ℕ} 0 1 = cc in absurd (omega arith)

is_some : (o : Option ℕ) (v : ℕ) → Some v ≡ o → o ≡ Some v
is_some None v e = let z : ◌≡◌ {A = ℕ} 0 1 = cc in absurd (omega arith)
is_some (Some x) v e = cc

signed_fits : (v : ℕ) → v < 2 ^ 32 → SFits w32 (signed_of v)
signed_fits v h = go (ltb v (2 ^ 31)) refl
  where
    go : (t : Bool) → ltb v (2 ^ 31) ≡ t → SFits w32 (cond t (negsuc (2 ^ 31 - suc v)) (pos (v - 2 ^ 31)))
    go true e = let l = ltb-true v (2 ^ 31) e in record { sfits = omega arith }
    go false e = let l = ltb-false v (2 ^ 31) e in record { sfits = omega arith }

module _ (t : List ℕ) (v : ℕ) (e : Some v ≡ read_integer t) where
  below : v < 2 ^ 32
  below = ltb-true v (2 ^ 32) (integers.only t v (is_some (read_integer t) v e)).0

  pub wide_fits : SFits w64 (pos v)
  wide_fits = let l = below in record { sfits = omega arith }

  less_is : to_z w64 v -ℤ pos (2 ^ 31) ≡ signed_of v
  less_is = let l = below in ap (λ (z : ℤ). z -ℤ pos (2 ^ 31)) (to_z_pos w64 v (omega arith))

  pub less_fits : SFits w64 (to_z w64 v -ℤ pos (2 ^ 31))
  less_fits = rw less_is (widens (signed_of v) (signed_fits v below))

  stored_is : to_z w64 (of_z w64 (to_z w64 v -ℤ pos (2 ^ 31))) ≡ signed_of v
  stored_is = to_z-of_z w64 (to_z w64 v -ℤ pos (2 ^ 31)) less_fits ∙ less_is

  pub narrow_fits : SFits w32 (to_z w64 (of_z w64 (to_z w64 v -ℤ pos (2 ^ 31))))
  narrow_fits = rw stored_is (signed_fits v below)

  pub integer_is : Some (to_z w64 (of_z w64 (to_z w64 v -ℤ pos (2 ^ 31)))) ≡ integer_of (read_integer t)
  integer_is = ap Some stored_is ∙ ap integer_of (sym (is_some (read_integer t) v e))

-- a number that fits is converted
pub converted : {A E : Type 0} (r : Result A E) (P : Type 0) (x : A) → OkIff r P x → P → result_ok r ≡ Some x
converted (Ok y) P x o p = ap Some o.1
converted (Err e) P x o p = absurd (o p)
