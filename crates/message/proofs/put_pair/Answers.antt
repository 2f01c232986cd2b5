-- The calls' facts in a chain.
use Rattle.output.proofs.OutputLaws.{then}
use Rattle.message.proofs.put_pair.Goals as goal

pub returns : goal.returns
returns c = then c.put_byte-p.ensures c.put_byte.ensures
