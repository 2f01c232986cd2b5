-- The text of the row, from its table.
use borrow.Author.Rules.{rules}
use Rattle.request.proofs.RefusalLaws.{entered}
use Rattle.request.proofs.complain.Goals as goal

pub returns : goal.returns
returns c = record { number = search rules; state = search rules; sent = search (entered, rules) }
