-- The calls' facts in a chain.
use borrow.Author.Rules.{rules}
use Rattle.output.proofs.OutputLaws.{then}
use Rattle.replies.proofs.put_args_range.Goals as goal

pub returns : goal.returns
returns c = search (then, rules)
