-- What is found so far, and the test of the rest, is the test of the whole.
use Rattle.rules.specs.Texts.{in_charset}
use Rattle.rules.proofs.BytesLaws.{Passing}
use Rattle.rules.proofs.text_fits.Given as goal

abbrev pub invariant-loop-b : goal.invariant-loop-b
invariant-loop-b l = Passing (in_charset l.charset) l.bytes l.ok l.b-index
