-- Writing the digits of the rest gives what writing those of the whole gave at the start.
use lib.ListN.{drop}
use Rattle.output.specs.Output.{output}
use Rattle.in_hex.specs.Hex.{hexed}
use Rattle.output.proofs.RestLaws as R
use Rattle.in_hex.proofs.put_hexed.Given as goal

abbrev pub invariant-loop-b : goal.invariant-loop-b
invariant-loop-b l = R.Rest (output l.initial.into l.at) (hexed l.bytes) (output l.into l.p) (hexed (drop l.b-index l.bytes))
