-- The calls' facts in a chain.
use borrow.Author.Rules.{rules}
use Rattle.message.proofs.DeliveryLaws.{delivered, one, within}
use native.Mathlib.Omega.{arith}
use Rattle.replies.proofs.deliver_count.Goals as goal

pub returns : goal.returns
returns c = search (one, delivered, rules)

pub overflow_add-result : goal.overflow_add-result
overflow_add-result c = let h = within (returns c) in omega arith
