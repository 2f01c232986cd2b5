-- The text of the option, as the type has it.
use Rattle.machine.specs.Messages.{value_for}
use Rattle.sampling.proofs.put_arg_number.Goals as goal

pub returns : goal.returns
unfolding value_for
returns c = rw c.option_at-option.ensures at c.put_arg_value.ensures
