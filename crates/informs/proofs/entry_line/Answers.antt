-- The calls' facts in a chain.
use Rattle.message.specs.Message.{write_to, id_text}
use Rattle.output.proofs.OutputLaws.{then}
use Rattle.informs.proofs.entry_line.Goals as goal

pub returns : goal.returns
unfolding write_to id_text
returns c = then c.put_bytes-p.ensures (then c.put_arg_level-p.ensures (then c.put_arg_number-p.ensures (then c.put_arg-p.ensures (then c.put_arg-p-2.ensures c.put_byte.ensures))))
