-- The calls' facts in a chain.
use mathlib.Core.List.{append-nil}
use Rattle.message.specs.Message.{write_to}
use Rattle.output.proofs.OutputLaws.{then}
use Rattle.replies.proofs.put_ok.Goals as goal

pub returns : goal.returns
unfolding write_to
returns c = rw append-nil (then c.put_byte-p.ensures (then c.put_bytes-p.ensures (then c.put_id-p.ensures c.put_arg.ensures)))
