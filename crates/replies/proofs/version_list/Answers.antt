-- The two informs, then the reply with their count.
use borrow.Author.Rules.{rules}
use Rattle.replies.proofs.ToldLaws.{counted}
use Rattle.replies.proofs.version_list.Goals as goal

pub returns : goal.returns
returns c = search (counted, rules)
