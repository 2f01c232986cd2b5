-- One argument after the other.
use Rattle.output.proofs.OutputLaws.{then}
use Rattle.output.proofs.OutputLaws.{alone}
use Rattle.strategies.proofs.put_args_rate.Goals as goal

pub returns : goal.returns
returns c = then c.put_arg_number-p.ensures (alone c.put_arg_number.ensures)
