-- The calls' facts in a chain.
use Rattle.message.specs.Message.{arg}
use Rattle.output.proofs.OutputLaws.{then}
use Rattle.message.proofs.put_arg.Goals as goal

pub returns : goal.returns
unfolding arg
returns c = then c.put_byte-p.ensures c.put_escaped.ensures
