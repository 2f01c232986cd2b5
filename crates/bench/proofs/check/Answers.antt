-- After k turns the count is k where the state is in range, else 0.
use mathlib.Core.Path.{◌≡◌}
use native.Mathlib.Omega.{arith}
use Rattle.machine.specs.Range.{in_range}
use Rattle.bench.proofs.RunLaws.{at_most_lem, none_yet, one_more}
use Rattle.bench.proofs.check.Goals as goal

pub loop-init : goal.loop-init
loop-init c = (omega arith, none_yet (in_range c.args.state))

pub counted-passed-requires : goal.counted-passed-requires
counted-passed-requires c = omega (arith, at_most_lem (in_range c.args.state) c.loop.counter c.loop.invariant.1)

pub loop-preserved : goal.loop-preserved
loop-preserved c = (omega arith, one_more (in_range c.args.state) c.loop.counter c.in_range.ensures c.loop.invariant.1 c.counted-passed.ensures.0)

pub returns : goal.returns
returns c = let e : c.loop.counter ≡ c.args.n = omega arith in
    rw (← e) c.loop.invariant.1
