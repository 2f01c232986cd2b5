-- A text that is copied into a buffer, where it fits and where it does not.
use Rattle.std.specs.Prelude.{Some, None}
use Prim.Native.Nat.{ℕ, ◌≤◌, ◌<◌}
use mathlib.Core.Path.{◌≡◌, ap}
use mathlib.Core.List.{List}
use mathlib.Core.Bool.{true, false}
use native.Mathlib.Omega.{arith}
use borrow.Author.Tests.{le-leb, lt-leb}
use lib.Dec.{leb}
use lib.ListN.{length}
use Rattle.output.specs.Output.{output, Wrote}
use Rattle.output.proofs.OutputLaws.{from_start}
use Rattle.line.specs.Argument.{copied, copied_into}

module _ (t into : List ℕ) (n : ℕ) (e : n ≡ length t) where
  pub too_short : length into < n → (None ≡ copied t into) × (into ≡ copied_into t into)
  unfolding copied copied_into
  too_short h =
      let f : leb (length t) (length into) ≡ false = lt-leb (length t) (length into) (omega arith) in
      (rw f, rw f)

  pub fits : (out : List ℕ) (r : ℕ) → n ≤ length into → Wrote (output into 0) t (output out r) → (Some n ≡ copied t into) × (out ≡ copied_into t into)
  unfolding copied copied_into
  fits out r h o =
      let f : leb (length t) (length into) ≡ true = le-leb (length t) (length into) (omega arith) in
      (rw f (ap Some e), rw f (from_start o (omega arith)).1)
