-- What was read stands at the start of the buffer; where the end came with room left it is all.
use Rattle.std.proofs.Common.{rules}
use Rattle.stream.proofs.KnownLaws.{given_more}
use Rattle.stream.proofs.read_all.Goals as goal

pub loop-from-preserved : goal.loop-from-preserved
loop-from-preserved g c =
    let read = c.in_ok-to-2.ensures in
    record {
      forward = read.behind.forward;
      fits = read.behind.fits;
      size = search rules;
      bytes = given_more _ _ _ c.loop-from.buf c.read_behind-in-loop-from.new.buf c.loop-from.to c.in_ok-to-2.to read.behind.forward read.behind.front c.loop-from.invariant.bytes read.bytes;
      end = search rules;
    }
