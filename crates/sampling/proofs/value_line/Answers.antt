-- The calls' facts in a chain.
use Rattle.message.specs.Message.{write_to}
use Rattle.output.proofs.OutputLaws.{then}
use Rattle.sampling.proofs.value_line.Goals as goal

pub returns : goal.returns
unfolding write_to
returns c = then c.put_byte-p.ensures (then c.put_bytes-p.ensures (then c.put_id-p.ensures (then c.put_arg_number-p.ensures (then c.put_arg-p.ensures (then c.put_arg_name-p.ensures (then (rw c.status_of-status.ensures at c.put_arg_status-p.ensures) (then c.put_arg_number-p-2.ensures c.put_byte.ensures)))))))
