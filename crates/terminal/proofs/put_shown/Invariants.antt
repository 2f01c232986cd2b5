-- What is still to be written is what the deliveries that are left show; each turn writes the line of one.
use lib.ListN.{length}
use Rattle.output.specs.Output.{output}
use Rattle.output.proofs.RestLaws as R
use Rattle.terminal.specs.Shown.{shown_to}
use Rattle.terminal.proofs.put_shown.Given as goal

abbrev pub invariant-loop-left : goal.invariant-loop-left
invariant-loop-left l = R.Rest (output l.initial.into l.at) (shown_to l.client l.bytes) (output l.into l.p) (shown_to l.client l.left)

abbrev pub decreases-loop-left : goal.decreases-loop-left
decreases-loop-left l = length l.left
