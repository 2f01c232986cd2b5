-- The word, and then the parameters.
use Rattle.output.proofs.OutputLaws.{then}
use Rattle.strategies.proofs.put_args_strategy.Goals as goal

pub returns : goal.returns
returns c = then (rw c.kind_of.ensures at c.put_arg_word-p.ensures) c.put_args_parameters.ensures
