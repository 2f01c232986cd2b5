-- Each turn tells of the next request of the table.
use Rattle.output.specs.Output.{output}
use Rattle.replies.proofs.RequestTable.{Helping}
use Rattle.replies.proofs.tell_requests.Given as goal

abbrev pub invariant-loop-k : goal.invariant-loop-k
invariant-loop-k l = Helping l.client l.id l.most l.first (output l.initial.out 0) l.k (output l.out l.at)
