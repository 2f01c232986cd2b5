-- The device of the sheet, and then the calls that connect.
use mathlib.Core.Path.{ap}
use Rattle.bench.specs.declared.Repeated.{Repeated}
use Rattle.bench.specs.Runs.{prepared}
use Rattle.bench.proofs.prepare.Goals as goal

pub returns : goal.returns
unfolding prepared
returns c = let o = c.open-opened.ensures in let r = c.repeat-ready.ensures in record {
  value = ap (λ (x : Repeated). x.state) (rw o at r.value);
  out_after = rw o at r.out_after;
}
