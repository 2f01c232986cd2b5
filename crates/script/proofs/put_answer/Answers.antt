-- A sequence of writers.
use Rattle.output.proofs.OutputLaws.{then}
use Rattle.script.specs.Replay.{answer_line}
use Rattle.script.proofs.put_answer.Goals as goal

pub returns : goal.returns
unfolding answer_line
returns c = then c.put_decimal-p.ensures (then c.put_byte-p.ensures (then c.put_text-p.ensures c.put_byte.ensures))
