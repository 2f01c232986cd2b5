-- The calls' facts in a chain; the end of the line stands behind the arguments.
use Rattle.message.proofs.MessageLaws.{said_line}
use Rattle.output.proofs.OutputLaws.{then}
use Rattle.message.proofs.put_line.Goals as goal

pub returns : goal.returns
returns c = said_line _ _ _ _ (then c.put_byte-p.ensures (then c.put_bytes-p.ensures (then c.put_id-p.ensures (then c.put_args-p.ensures c.put_byte.ensures))))
