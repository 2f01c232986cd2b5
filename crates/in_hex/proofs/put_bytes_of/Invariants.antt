-- Pairs are left to come, and writing the bytes of the rest gives what writing those of the whole gave at the start.
use mathlib.Core.Path.{◌≡◌}
use Rattle.output.specs.Output.{output}
use Rattle.in_hex.specs.Hex.{bytes_of}
use Rattle.output.proofs.RestLaws as R
use Rattle.in_hex.proofs.put_bytes_of.Given as goal

abbrev pub invariant-loop-pair : goal.invariant-loop-pair
invariant-loop-pair l = (l.pair-iterator.size ≡ 2) × R.Rest (output l.initial.into l.at) (bytes_of l.t) (output l.into l.p) (bytes_of l.pair-iterator.rest.now)
