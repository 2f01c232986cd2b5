-- Writing the rest gives what writing the whole gave at the start.
use lib.ListN.{drop}
use Rattle.output.specs.Output.{output}
use Rattle.output.proofs.RestLaws as R
use Rattle.output.proofs.put_bytes.Given as goal

abbrev pub invariant-loop-b : goal.invariant-loop-b
invariant-loop-b l = R.Rest (output l.initial.out l.at) l.s (output l.out l.p) (drop l.b-index l.s)
