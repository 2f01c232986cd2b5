-- After k turns the count is k where the sheet opens, else 0.
use Prim.Native.Nat.{ℕ}
use mathlib.Core.Path.{◌≡◌, ap}
use mathlib.Core.Bool.{Bool}
use mathlib.Core.List.{List}
use native.Mathlib.Omega.{arith}
use lib.Dec.{eqb}
use Rattle.machine.specs.declared.Opened.{Opened}
use Rattle.machine.specs.Opening.{start_of, opened}
use Rattle.bench.proofs.RunLaws.{at_most_lem, none_yet, one_more}
use Rattle.bench.proofs.bench_opens.Goals as goal

-- the sheet opens
abbrev opens : List ℕ → Bool
opens sheet = eqb (opened (start_of 0 sheet)).number 0

pub loop-init : goal.loop-init
loop-init c = (omega arith, none_yet (opens c.args.sheet.now))

pub counted-taken-requires : goal.counted-taken-requires
counted-taken-requires c = omega (arith, at_most_lem (opens c.args.sheet.now) c.loop.counter c.loop.invariant.1)

pub loop-preserved : goal.loop-preserved
loop-preserved c = (omega arith, one_more (opens c.args.sheet.now) c.loop.counter (ap (λ (x : Opened). eqb x.number 0) c.open-device.ensures) c.loop.invariant.1 c.counted-taken.ensures.0)

pub returns : goal.returns
returns c = let e : c.loop.counter ≡ c.args.n = omega arith in
    rw (← e) c.loop.invariant.1
