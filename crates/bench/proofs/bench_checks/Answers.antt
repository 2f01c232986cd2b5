-- The check of the state that was prepared.
use Rattle.bench.proofs.bench_checks.Goals as goal

pub returns : goal.returns
returns c = let p = c.prepare-state.ensures in record {
  value = rw p.value at c.check.ensures;
  out_after = p.out_after;
}
