-- The word's bytes fit into the buffer.
use Rattle.script.proofs.BytesLaws.{Held, held}
use Rattle.script.proofs.connect.Goals as goal

pub slice_bounds-address-end : goal.slice_bounds-address-end
slice_bounds-address-end c = let held-address : Held 3 c.args.line.now c.put_bytes_of-n.new.into c.put_bytes_of-n.result = held 3 c.word.ensures c.put_bytes_of-n.ensures c.requires in
    held-address.inside

pub slice_bounds-connect-end : goal.slice_bounds-connect-end
slice_bounds-connect-end c = let held-address : Held 3 c.args.line.now c.put_bytes_of-n.new.into c.put_bytes_of-n.result = held 3 c.word.ensures c.put_bytes_of-n.ensures c.requires in
    held-address.count

pub returns : goal.returns
returns c = let held-address : Held 3 c.args.line.now c.put_bytes_of-n.new.into c.put_bytes_of-n.result = held 3 c.word.ensures c.put_bytes_of-n.ensures c.requires in
    rw held-address.bytes at c.connect.ensures
