-- The bytes are those of `prefix`.
use mathlib.Core.Path.{ap}
use Rattle.message.specs.Message.{arg}
use Rattle.output.proofs.OutputLaws.{said}
use Rattle.message.proofs.put_arg_prefix.Goals as goal

pub returns : goal.returns
returns c = said c.put_arg.ensures (ap arg c.prefix.ensures)
