-- The calls' facts in a chain.
use borrow.Author.Rules.{rules}
use Rattle.message.specs.Message.{write_to}
use Rattle.output.proofs.OutputLaws.{then}
use Rattle.informs.proofs.device_line.Goals as goal

pub slice_bounds-put_arg_prefix-end-2 : goal.slice_bounds-put_arg_prefix-end-2
slice_bounds-put_arg_prefix-end-2 c = let g = (c.well_formed) in search rules

pub returns : goal.returns
unfolding write_to
returns c = then c.put_byte-p.ensures (then c.put_bytes-p.ensures (then c.put_id-p.ensures (then c.put_arg-p.ensures (then c.put_arg_prefix-p.ensures (then c.put_arg_prefix-p-2.ensures c.put_byte.ensures)))))
