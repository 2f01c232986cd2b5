-- The invariant: the places before p are passed, and p is a place of the visit or behind all of them. The measure is the places that are left.
use Prim.Native.Nat.{◌<◌}
use native.Mathlib.Omega.{arith}
use mathlib.Core.Path.{refl, sym, ◌∙◌}
use mathlib.Core.Bool.{true, false}
use borrow.Author.Rules.{rules}
use Rattle.machine.proofs.ArrayLaws.{subscriptions_many}
use Rattle.sampling.specs.Visits.{moment, first_place}
use Rattle.sampling.proofs.VisitLaws.{first_come, next_come, next_behind, turn_asked, turn_not, turn_reports, turn_silent, visited}
use Rattle.sampling.proofs.visit.Goals as goal
use Rattle.sampling.proofs.visit.Goals.{then-there-can_report+then-is_due, then-there-can_report+else-is_due, else-there-can_report}

pub loop-p-init : goal.loop-p-init
unfolding first_place
loop-p-init c = search (first_come, subscriptions_many, rules)

pub loop-p-smaller : goal.loop-p-smaller
loop-p-smaller c = let behind : c.loop-p.p < c.next_place-p.result = rw c.next_place-p.ensures (next_behind _ _ _) in
    omega arith

pub loop-p-preserved : goal.loop-p-preserved
loop-p-preserved c =
    let loop = c.loop-p in
    let test : loop.p < 256 = c.loop-p-test.true in
    let all = subscriptions_many c.args.s _ c.well_formed.1.1.0 in
    let reading = c.by_reading-reading in
    let can = c.can_report in
    next_come all test loop.invariant c.next_place-p.ensures
    (elim c.if-there-can_report.branch [
      | then-there-can_report+then-is_due w ↦
          let is = turn_asked all test loop.invariant reading.result can.result true reading.ensures w.if-there-can_report.true (sym w.if-is_due.true ∙ w.is_due.ensures) in
          rw (w.out-is, w.pairs-is, w.at-is) (turn_reports all test loop.invariant is w.after_report.ensures w.deliver_report-at.ensures)
      | then-there-can_report+else-is_due w ↦
          let is = turn_asked all test loop.invariant reading.result can.result false reading.ensures w.if-there-can_report.true (sym w.if-is_due.false ∙ w.is_due.ensures) in
          rw (w.out-is, w.pairs-is, w.at-is) (turn_silent all test loop.invariant is)
      | else-there-can_report w ↦
          let is = turn_not all test loop.invariant reading.result can.result reading.ensures can.ensures w.if-there-can_report.false in
          rw (w.out-is, w.pairs-is, w.at-is) (turn_silent all test loop.invariant is)
    ])

pub returns : goal.returns
returns c =
    let all =
    visited
    c.args.visiting
    (moment c.args.s c.args.clock c.args.readings)
    c.args.cause
    (subscriptions_many c.args.s _ c.well_formed.1.1.0)
    c.loop-p.invariant
    c.loop-p-test.false
    in
    record { number_value = refl; state_value = all.0; sent = all.1 }
