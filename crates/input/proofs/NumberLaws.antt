-- A text with digits only.
use Prim.Native.Nat.{ℕ}
use mathlib.Core.Path.{◌≡◌}
use mathlib.Core.Bool.{Bool, ◌&&◌}
use mathlib.Core.List.{List}
use lib.Dec.{eqb}
use lib.ListN.{length}
use Rattle.output.specs.Text.{is_digit}
use Rattle.output.proofs.RunLaws.{run_whole}
use Rattle.value.specs.Parameter.{whole, whole_ok}
use Rattle.input.specs.Words.{is_natural}

pub natural_is : (t : List ℕ) (b : Bool) (n : ℕ) → b ≡ whole_ok t → n ≡ length (whole t) → b && eqb n (length t) ≡ is_natural t
unfolding is_natural
natural_is t b n e f = rw (e, f, run_whole is_digit t)
