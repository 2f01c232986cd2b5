-- The minus, where there is one, and how far the number is from the bias.
use Prim.Native.Nat.{◌^◌}
use Rattle.output.specs.Number.{float, fixed}
use Rattle.output.proofs.NumberLaws.{signed_lem}
use Rattle.output.proofs.OutputLaws.{then, said}
use Rattle.output.proofs.put_float.Goals as goal

pub returns : goal.returns
unfolding float
returns c = said (then c.put_sign-p.ensures (rw c.abs_diff.ensures at c.put_fixed.ensures)) (signed_lem (2 ^ 30) (fixed 1024 10) c.args.v)
