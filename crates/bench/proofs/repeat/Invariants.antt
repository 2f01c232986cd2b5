-- After k turns the device, the count and the output are those of k calls.
use Prim.Native.Nat.{◌≤◌}
use mathlib.Core.Path.{◌≡◌}
use lib.ListN.{length}
use Rattle.bench.specs.Runs.{begun, round_action}
use Rattle.bench.proofs.RunLaws.{Reached}
use Rattle.bench.proofs.repeat.Given as goal

abbrev pub invariant-loop-k : goal.invariant-loop-k
invariant-loop-k l = (l.k ≤ l.n) × (l.taken ≤ l.k) × (length l.out ≡ length l.initial.out) × Reached (round_action l.round l.line) (begun l.initial.state l.initial.out) l.k l.state l.taken l.out
