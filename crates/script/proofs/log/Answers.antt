-- The words' bytes fit into the buffers.
use Rattle.script.proofs.BytesLaws.{Held, held}
use Rattle.script.proofs.log.Goals as goal

pub slice_bounds-logger-end : goal.slice_bounds-logger-end
slice_bounds-logger-end c = let held-logger : Held 3 c.args.line.now c.put_bytes_of-n.new.into c.put_bytes_of-n.result = held 3 c.word.ensures c.put_bytes_of-n.ensures c.requires in
    held-logger.inside

pub slice_bounds-log-end : goal.slice_bounds-log-end
slice_bounds-log-end c = let held-logger : Held 3 c.args.line.now c.put_bytes_of-n.new.into c.put_bytes_of-n.result = held 3 c.word.ensures c.put_bytes_of-n.ensures c.requires in
    held-logger.count

pub slice_bounds-message-end : goal.slice_bounds-message-end
slice_bounds-message-end c = let held-message : Held 4 c.args.line.now c.put_bytes_of-m.new.into c.put_bytes_of-m.result = held 4 c.word-2.ensures c.put_bytes_of-m.ensures c.requires in
    held-message.inside

pub slice_bounds-log-end-2 : goal.slice_bounds-log-end-2
slice_bounds-log-end-2 c = let held-message : Held 4 c.args.line.now c.put_bytes_of-m.new.into c.put_bytes_of-m.result = held 4 c.word-2.ensures c.put_bytes_of-m.ensures c.requires in
    held-message.count

pub returns : goal.returns
returns c = let held-logger : Held 3 c.args.line.now c.put_bytes_of-n.new.into c.put_bytes_of-n.result = held 3 c.word.ensures c.put_bytes_of-n.ensures c.requires in
    let held-message : Held 4 c.args.line.now c.put_bytes_of-m.new.into c.put_bytes_of-m.result = held 4 c.word-2.ensures c.put_bytes_of-m.ensures c.requires in
    rw (held-logger.bytes, held-message.bytes) at c.log.ensures
