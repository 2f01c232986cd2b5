-- The call on the state that opening gave.
use mathlib.Core.Path.{ap, ◌∙◌}
use mathlib.Core.Bool.{cond}
use Rattle.machine.specs.declared.Answer.{Answer}
use Rattle.machine.specs.Range.{in_range}
use Rattle.bench.specs.Runs.{round_action}
use Rattle.bench.proofs.bench_reading.Goals as goal

pub returns : goal.returns
unfolding round_action
returns c = let e = c.open-fresh.ensures in
    let a = c.reading-answer.ensures in record {
      value = c.judged.ensures ∙ ap (λ (x : Answer). cond (in_range x.state) x.number 255) (rw e at a.value);
      out_after = rw e at a.out_after;
    }
