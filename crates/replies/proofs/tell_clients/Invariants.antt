-- The invariant: the clients passed are told of.
use Rattle.output.specs.Output.{output}
use Rattle.replies.proofs.ToldLaws.{Telling}
use Rattle.replies.proofs.tell_clients.Given as goal

abbrev pub invariant-loop-k : goal.invariant-loop-k
invariant-loop-k l = Telling l.client l.id l.fn.clients (output l.initial.out 0) l.k-index (output l.out l.told.at) l.told.count
