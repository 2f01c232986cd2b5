-- By the type.
use Rattle.machine.specs.Messages.{type_args}
use Rattle.replies.proofs.put_args_of_type.Goals as goal

pub returns-then-is_discrete : goal.returns-then-is_discrete
unfolding type_args
returns-then-is_discrete c = rw (← c.is_discrete.ensures, c.if-is_discrete.true) c.put_args_options.ensures

pub returns : goal.returns
unfolding type_args
returns c = rw (← c.is_discrete.ensures, c.if-is_discrete.false) c.put_args_limits.ensures
