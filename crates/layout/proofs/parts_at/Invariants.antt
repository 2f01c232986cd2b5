-- The parts read so far stand at the start, and the rest is read behind them.
use lib.ListN.{length}
use Rattle.layout.proofs.ManyLaws.{Progress}
use Rattle.layout.proofs.parts_at.Given as goal

abbrev pub invariant-loop-k : goal.invariant-loop-k
invariant-loop-k g l = Progress g.T.Part.part_at (length l.initial.parts) l.s l.parts l.rest l.k
