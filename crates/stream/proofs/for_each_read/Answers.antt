-- What a read brought follows what came before.
use Rattle.std.proofs.Common.{rules, of_calls}
use Rattle.std.proofs.KnownBytes.{Consumes-trans}
use Rattle.stream.proofs.for_each_read.Goals as goal

pub loop-preserved : goal.loop-preserved
loop-preserved g c =
    let read = c.in_ok-came-2.ensures in
    record {
      callable = search of_calls;
      within = search rules;
      size = search rules;
      bytes = (_, Consumes-trans _ _ _ _ _ c.loop.invariant.bytes.1 read.bytes);
    }
