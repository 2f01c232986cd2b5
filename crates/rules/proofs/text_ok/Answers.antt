-- What is found so far, and the test of the rest, is the test of the whole.
use native.Mathlib.Omega.{arith}
use Rattle.machine.specs.Sheet.{text_ok}
use Rattle.rules.proofs.FillLaws.{filling, filling_on, filling_end}
use Rattle.rules.proofs.text_ok.Goals as goal

pub loop-i-init : goal.loop-i-init
loop-i-init c = filling _ _ _

pub loop-i-preserved : goal.loop-i-preserved
loop-i-preserved c = rw c.in_charset-fits.ensures (filling_on c.loop-i.invariant (omega arith))

pub returns : goal.returns
unfolding text_ok
returns c = rw (filling_end c.loop-i.invariant (omega arith))
