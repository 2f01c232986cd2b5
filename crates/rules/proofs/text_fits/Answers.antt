-- What is found so far, and the test of the rest, is the test of the whole.
use native.Mathlib.Omega.{arith}
use Rattle.machine.specs.Sheet.{text_fits}
use Rattle.rules.proofs.BytesLaws.{passing, passing_on, passing_end}
use Rattle.rules.proofs.text_fits.Goals as goal

pub loop-i-init : goal.loop-i-init
loop-i-init c = passing _ _

pub loop-i-preserved : goal.loop-i-preserved
loop-i-preserved c = rw c.in_charset-ok.ensures (passing_on c.loop-i.invariant (omega arith))

pub returns : goal.returns
unfolding text_fits
returns c = rw (passing_end c.loop-i.invariant (omega arith))
