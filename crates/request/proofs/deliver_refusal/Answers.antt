-- The code and the text of the row, from their tables.
use borrow.Author.Rules.{rules}
use Rattle.request.proofs.RefusalLaws.{refused_with_lem}
use Rattle.request.proofs.deliver_refusal.Goals as goal

pub returns : goal.returns
returns c = search (refused_with_lem, rules)
