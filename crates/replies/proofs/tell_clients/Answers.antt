-- The invariant: the clients passed are told of.
use native.Mathlib.Omega.{arith}
use borrow.Author.Rules.{rules}
use Rattle.replies.proofs.ToldLaws.{telling, telling_on, few, told}
use Rattle.replies.proofs.tell_clients.Goals as goal

pub loop-k-init : goal.loop-k-init
loop-k-init c = telling _ _ _ _

pub tell_client-told-requires : goal.tell_client-told-requires
tell_client-told-requires c = let h = few c.loop-k.invariant in search rules

pub loop-k-preserved : goal.loop-k-preserved
loop-k-preserved c = search (telling_on, rules)

pub returns : goal.returns
returns c = let all = told c.loop-k.invariant (omega arith) in record {
  sent = all.0;
  count_value = all.1;
}
