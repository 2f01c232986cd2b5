-- One call on each way: a row of the table, or the byte itself.
use mathlib.Core.Path.{ap, sym}
use Rattle.message.proofs.MessageLaws.{raw}
use Rattle.message.specs.Message.{escape_byte}
use Rattle.output.proofs.OutputLaws.{said}
use Rattle.message.proofs.put_escape.Goals as goal

pub returns-in-92 : goal.returns-in-92
unfolding escape_byte
returns-in-92 c = said c.put_pair.ensures (ap escape_byte (sym c.in-92.is))

pub returns-in-32 : goal.returns-in-32
unfolding escape_byte
returns-in-32 c = said c.put_pair-in-32.ensures (ap escape_byte (sym c.in-32.is))

pub returns-in-0 : goal.returns-in-0
unfolding escape_byte
returns-in-0 c = said c.put_pair-in-0.ensures (ap escape_byte (sym c.in-0.is))

pub returns-in-10 : goal.returns-in-10
unfolding escape_byte
returns-in-10 c = said c.put_pair-in-10.ensures (ap escape_byte (sym c.in-10.is))

pub returns-in-13 : goal.returns-in-13
unfolding escape_byte
returns-in-13 c = said c.put_pair-in-13.ensures (ap escape_byte (sym c.in-13.is))

pub returns-in-27 : goal.returns-in-27
unfolding escape_byte
returns-in-27 c = said c.put_pair-in-27.ensures (ap escape_byte (sym c.in-27.is))

pub returns-in-9 : goal.returns-in-9
unfolding escape_byte
returns-in-9 c = said c.put_pair-in-9.ensures (ap escape_byte (sym c.in-9.is))

pub returns-in_default : goal.returns-in_default
unfolding escape_byte
returns-in_default c = said c.put_byte.ensures (search raw)
