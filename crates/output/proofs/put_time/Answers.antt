-- A sequence of writers: the calls' facts in a chain.
use Rattle.output.specs.Number.{time}
use Rattle.output.proofs.OutputLaws.{then}
use Rattle.output.proofs.put_time.Goals as goal

pub returns : goal.returns
unfolding time
returns c = then c.put_decimal-p.ensures (then c.put_byte-p.ensures (then c.put_digit-p.ensures (then c.put_digit-p-2.ensures c.put_digit.ensures)))
