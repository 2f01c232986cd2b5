-- The text written, and the text that what is left stands for, are the text of the whole.
use lib.ListN.{length}
use Rattle.output.specs.Output.{output}
use Rattle.line.proofs.UnescapeLaws.{Put}
use Rattle.line.proofs.put_unescaped.Given as goal

abbrev pub invariant-loop-meaning : goal.invariant-loop-meaning
invariant-loop-meaning l = Put (output l.initial.into l.at) l.w (output l.into l.p) l.left

abbrev pub decreases-loop-meaning : goal.decreases-loop-meaning
decreases-loop-meaning l = length l.left
