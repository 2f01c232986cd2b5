-- Each turn tells of the next request of the table.
use native.Mathlib.Omega.{arith}
use mathlib.Core.Path.{◌≡◌}
use Rattle.machine.specs.Sheet.{single}
use Rattle.replies.proofs.RequestTable.{helping, helping_on, helped}
use Rattle.replies.proofs.tell_requests.Goals as goal

pub loop-k-init : goal.loop-k-init
loop-k-init c = helping _ _ (single c.args.profile) _ c.word_count-most.ensures c.first_request-first.ensures

pub loop-k-preserved : goal.loop-k-preserved
loop-k-preserved c = helping_on c.loop-k.invariant (omega arith) c.word_of.ensures c.tell_request-at.ensures

pub overflow_sub-result : goal.overflow_sub-result
overflow_sub-result c = omega (arith, c.loop-k.invariant.from, c.loop-k.invariant.inside)

pub returns : goal.returns
returns c = let end : c.word_count-most.result ≡ c.loop-k.k = omega (arith, c.loop-k.invariant.inside) in
    let all = helped c.loop-k.invariant _ c.first_request-first.ensures (omega arith) in record {
      sent = all.0;
      count_value = rw end all.1;
    }
