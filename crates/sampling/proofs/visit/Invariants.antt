-- The invariant: the places before p are passed, and p is a place of the visit or behind all of them. The measure is the places that are left.
use Prim.Native.Nat.{◌-◌}
use Rattle.output.specs.Output.{output}
use Rattle.sampling.specs.Visits.{moment}
use Rattle.sampling.proofs.VisitLaws.{Come}
use Rattle.sampling.proofs.visit.Given as goal

abbrev pub invariant-loop-p : goal.invariant-loop-p
invariant-loop-p l = Come l.visiting (moment l.s l.clock l.readings) l.cause (output l.initial.out 0) l.p l.pairs (output l.out l.at)

abbrev pub decreases-loop-p : goal.decreases-loop-p
decreases-loop-p l = 256 - l.p
