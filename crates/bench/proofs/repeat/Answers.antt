-- After k turns the device, the count and the output are those of k calls.
use borrow.Author.Rules.{rules}
use native.Mathlib.Omega.{arith}
use Rattle.bench.proofs.RunLaws.{starts, goes_on_lem, ends}
use Rattle.bench.proofs.repeat.Goals as goal

pub loop-k-init : goal.loop-k-init
loop-k-init c = (omega arith, omega arith, search rules, starts _ _ _)

pub loop-k-preserved : goal.loop-k-preserved
loop-k-preserved c = let h = c.loop-k.invariant in
    let t = c.turn-answer in
    (omega arith, omega (arith, c.counted-taken.ensures.1), search rules, goes_on_lem _ h.3 t.ensures.value t.ensures.out_after c.counted-taken.ensures.0)

pub returns : goal.returns
returns c = let all = ends (omega arith) c.loop-k.invariant.3 in record {
  value = all.0;
  out_after = all.1;
}
