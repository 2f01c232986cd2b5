-- The invariant: the first k places are set.
use Rattle.request.proofs.SetLaws.{SetTo}
use Rattle.request.proofs.set_all.Given as goal

abbrev pub invariant-loop-place : goal.invariant-loop-place
invariant-loop-place l = SetTo l.initial.s l.client l.places l.strategy l.place-index l.s
