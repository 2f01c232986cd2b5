-- The round's calls, on the device that was prepared.
use mathlib.Core.Path.{ap}
use Rattle.bench.specs.declared.Repeated.{Repeated}
use Rattle.bench.specs.Runs.{measured}
use Rattle.bench.proofs.bench_calls.Goals as goal

pub returns : goal.returns
unfolding measured
returns c = let p = c.prepare-state.ensures in
    let o = c.round_of.ensures in let r = c.repeat-done.ensures in record {
      value = ap (λ (x : Repeated). x.taken) (rw (o, p.value, p.out_after) at r.value);
      out_after = rw (o, p.value, p.out_after) at r.out_after;
    }
