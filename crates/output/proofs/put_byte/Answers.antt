-- Where there is room the byte is stored; at the end nothing is.
use native.Mathlib.Omega.{arith}
use mathlib.Core.Path.{◌≡◌, ap}
use Prim.Native.Nat.{ℕ, ◌+◌, ◌≤◌, min}
use mathlib.Core.List.{List}
use lib.ListN.{length}
use lib.Seq.{set_out}
use Rattle.output.specs.Output.{output, put}
use Rattle.output.proofs.put_byte.Goals as goal

-- at the end nothing is stored, and the place is the end
full : (xs : List ℕ) (at b : ℕ) → length xs ≤ at → output xs (length xs) ≡ put (output xs at) b
full xs at b h = let e : min (at + 1) (length xs) ≡ length xs = omega arith in rw (set_out xs at b, e)

pub returns-then-at-out : goal.returns-then-at-out
returns-then-at-out c = record { is = ap (output _) (omega arith) }

pub returns-else-at-out : goal.returns-else-at-out
returns-else-at-out c = record { is = full c.args.out.now c.args.at c.args.b (omega arith) }
