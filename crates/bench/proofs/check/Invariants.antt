-- After k turns the count is k where the state is in range, else 0.
use Prim.Native.Nat.{◌≤◌}
use mathlib.Core.Path.{◌≡◌}
use mathlib.Core.Bool.{cond}
use Rattle.machine.specs.Range.{in_range}
use Rattle.bench.proofs.check.Given as goal

abbrev pub invariant-loop : goal.invariant-loop
invariant-loop l = (l.counter ≤ l.n) × (l.passed ≡ cond (in_range l.state) l.counter 0)
