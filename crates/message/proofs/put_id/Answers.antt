-- Nothing for 0, or the calls' facts in a chain.
use Rattle.message.proofs.MessageLaws.{id_none, id_some}
use Rattle.output.proofs.OutputLaws.{then, blank, said}
use Rattle.message.proofs.put_id.Goals as goal

pub returns-then-id-eq0 : goal.returns-then-id-eq0
returns-then-id-eq0 c = said blank (id_none _ c.if-id-eq0.true)

pub returns : goal.returns
returns c = said (then c.put_byte-p.ensures (then c.put_decimal-p.ensures c.put_byte.ensures)) (id_some _ c.if-id-eq0.false)
