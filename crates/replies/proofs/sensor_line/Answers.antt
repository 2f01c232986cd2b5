-- The calls' facts in a chain.
use mathlib.Core.List.{[], ◌∷◌}
use borrow.Author.Rules.{rules}
use Rattle.message.specs.Message.{write_to}
use Rattle.machine.specs.Messages.{sensor_inform, type_args}
use Rattle.output.proofs.OutputLaws.{then}
use Rattle.replies.proofs.LineLaws.{args_ended}
use Rattle.replies.proofs.sensor_line.Goals as goal

pub slice_bounds-put_arg_prefix-end-2 : goal.slice_bounds-put_arg_prefix-end-2
slice_bounds-put_arg_prefix-end-2 c = let g = (c.well_formed) in search rules

pub returns : goal.returns
unfolding write_to sensor_inform
returns c = then c.put_bytes-p.ensures (then c.put_id-p.ensures (then c.put_arg_name-p.ensures (then c.put_arg_prefix-p.ensures (then c.put_arg_prefix-p-2.ensures (then c.put_arg_type-p.ensures (args_ended (type_args _) (10 ∷ []) c.put_args_of_type-p.ensures c.put_byte.ensures))))))
