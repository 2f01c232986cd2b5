-- What is found so far, and the test of the rest, is the test of the whole.
use Rattle.rules.specs.Texts.{in_charset}
use Rattle.rules.proofs.FillLaws.{Filling}
use Rattle.rules.proofs.text_ok.Given as goal

abbrev pub invariant-loop-i : goal.invariant-loop-i
invariant-loop-i l = Filling (in_charset l.charset) l.len l.bytes l.ok l.i
