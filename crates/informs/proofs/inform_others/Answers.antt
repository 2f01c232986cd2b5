-- The clients passed have the inform.
use native.Mathlib.Omega.{arith}
use Rattle.informs.proofs.ServedLaws.{serving, serving_told, serving_passed, served}
use Rattle.informs.proofs.inform_others.Goals as goal
use Rattle.informs.proofs.inform_others.Goals.{then-client-c, else-client-c}

pub loop-c-init : goal.loop-c-init
loop-c-init c = serving _ _ _

pub loop-c-preserved : goal.loop-c-preserved
loop-c-preserved c = elim c.if-client-c.branch [
  | then-client-c w ↦ rw (w.out-is, w.p-is) (serving_told c.loop-c.invariant (omega arith) w.if-client-c.true w.deliver-p.ensures)
  | else-client-c w ↦ rw (w.out-is, w.p-is) (serving_passed c.loop-c.invariant (omega arith) w.if-client-c.false)
]

pub returns : goal.returns
returns c = served c.loop-c.invariant (omega arith)
