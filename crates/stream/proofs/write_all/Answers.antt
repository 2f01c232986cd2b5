-- The bytes before the place are taken; a write adds those that it took.
use Rattle.stream.proofs.KnownLaws.{taken_more}
use Rattle.stream.proofs.write_all.Goals as goal

pub loop-preserved : goal.loop-preserved
loop-preserved g c =
    let now = c.loop in
    let more = taken_more _ _ _ c.args.bytes.now now.at c.write-answer.result now.invariant.fits now.invariant.taken c.write-answer.ensures.bound c.write-answer.ensures.bytes in
    rw c.unwrap_or-taken.ensures (record { fits = more.0; taken = more.1 })
