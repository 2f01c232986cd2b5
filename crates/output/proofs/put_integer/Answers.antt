-- The minus, where there is one, and how far the number is from the bias.
use Prim.Native.Nat.{◌^◌}
use Rattle.output.specs.Number.{integer, decimal}
use Rattle.output.proofs.NumberLaws.{signed_lem}
use Rattle.output.proofs.OutputLaws.{then, said}
use Rattle.output.proofs.put_integer.Goals as goal

pub returns : goal.returns
unfolding integer
returns c = said (then c.put_sign-p.ensures (rw c.abs_diff.ensures at c.put_decimal.ensures)) (signed_lem (2 ^ 31) decimal c.args.v)
