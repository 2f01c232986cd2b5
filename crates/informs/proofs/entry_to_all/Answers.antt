-- The clients passed have the entry.
use native.Mathlib.Omega.{arith}
use Rattle.informs.proofs.ServedLaws.{serving, serving_told, serving_passed, served}
use Rattle.informs.proofs.entry_to_all.Goals as goal
use Rattle.informs.proofs.entry_to_all.Goals.{then-client, else-client}

pub loop-c-init : goal.loop-c-init
loop-c-init c = serving _ _ _

pub loop-c-preserved : goal.loop-c-preserved
loop-c-preserved c = elim c.if-client.branch [
  | then-client w ↦ rw (w.out-is, w.at-is) (serving_told c.loop-c.invariant (omega arith) w.if-client.true w.deliver_entry-at.ensures)
  | else-client w ↦ rw (w.out-is, w.at-is) (serving_passed c.loop-c.invariant (omega arith) w.if-client.false)
]

pub returns : goal.returns
returns c = served c.loop-c.invariant (omega arith)
