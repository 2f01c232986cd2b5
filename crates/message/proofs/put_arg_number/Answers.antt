-- The calls' facts in a chain; the text of a number needs no escapes.
use Rattle.message.proofs.MessageLaws.{arg_number}
use Rattle.output.proofs.OutputLaws.{then, said}
use Rattle.message.proofs.put_arg_number.Goals as goal

pub returns : goal.returns
returns c = said (then c.put_byte-p.ensures c.put_number.ensures) (arg_number c.args.notation c.args.n)
