-- The difference, and then the periods.
use Rattle.output.proofs.OutputLaws.{then}
use Rattle.strategies.proofs.put_args_difference_rate.Goals as goal

pub returns : goal.returns
returns c = then c.put_arg_difference-p.ensures c.put_args_rate.ensures
