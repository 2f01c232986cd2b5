-- The word's bytes fit into the buffer.
use Rattle.script.proofs.BytesLaws.{Held, held}
use Rattle.script.proofs.client_line.Goals as goal

pub slice_bounds-bytes-end : goal.slice_bounds-bytes-end
slice_bounds-bytes-end c = let held_bytes : Held 3 c.args.line.now c.put_bytes_of-n.new.into c.put_bytes_of-n.result = held 3 c.word.ensures c.put_bytes_of-n.ensures c.requires in
    held_bytes.inside

pub slice_bounds-line-end : goal.slice_bounds-line-end
slice_bounds-line-end c = let held_bytes : Held 3 c.args.line.now c.put_bytes_of-n.new.into c.put_bytes_of-n.result = held 3 c.word.ensures c.put_bytes_of-n.ensures c.requires in
    held_bytes.count

pub returns : goal.returns
returns c = let held_bytes : Held 3 c.args.line.now c.put_bytes_of-n.new.into c.put_bytes_of-n.result = held 3 c.word.ensures c.put_bytes_of-n.ensures c.requires in
    rw held_bytes.bytes at c.line.ensures
