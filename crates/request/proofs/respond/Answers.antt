-- Rows 1 to 6, and then what the line asks.
use native.Mathlib.Omega.{arith}
use mathlib.Core.Path.{ap, sym, ◌∙◌}
use mathlib.Core.Bool.{not}
use Rattle.machine.specs.Refusals.{number_in}
use Rattle.machine.specs.Declined.{Action, Line}
use Rattle.machine.proofs.RefusalLaws.{not_zero}
use Rattle.declining.proofs.AnswerLaws.{turned_away}
use Rattle.request.proofs.GivenLaws.{as_given, nothing_given}
use Rattle.request.proofs.EffectLaws.{blank_effect, written_effect, declines, passes, answered_line}
use Rattle.request.proofs.respond.Goals as goal

pub returns-in-Err : goal.returns-in-Err
returns-in-Err c = let a = c.args in
    let asks : Action = Line a.client a.line.now in
    let d = declines a.state a.client a.line.now a.out.now c.in_range.ensures (ap not c.is_connected-refused.ensures) c.client_rows-own.ensures c.rows-rows.ensures (not_zero c.in-Err.is) in
    let all = turned_away a.state asks a.out.now d.0 c.in-Err.is d.1 c.silent.ensures in
    record { value = all.0; out_after = all.1 }

pub returns-then-is_blank : goal.returns-then-is_blank
returns-then-is_blank c = let a = c.args in
    let p = passes a.state a.client a.line.now a.out.now c.in_range.ensures (ap not c.is_connected-refused.ensures) c.client_rows-own.ensures c.rows-rows.ensures (ap number_in c.in_default.is) in
    let all = answered_line a.state a.client a.line.now a.out.now p.0 p.2
    (as_given (blank_effect a.state a.client a.line.now (sym c.is_blank.ensures ∙ c.if-is_blank.true)) (nothing_given a.state a.out.now c.answered.ensures)) in
    record { value = all.0; out_after = all.1 }

pub overflow_cast-client : goal.overflow_cast-client
overflow_cast-client c = let a = c.args in
    let p = passes a.state a.client a.line.now a.out.now c.in_range.ensures (ap not c.is_connected-refused.ensures) c.client_rows-own.ensures c.rows-rows.ensures (ap number_in c.in_default.is) in
    omega (arith, p.3)

pub answer_line-requires : goal.answer_line-requires
answer_line-requires c = let a = c.args in
    let p = passes a.state a.client a.line.now a.out.now c.in_range.ensures (ap not c.is_connected-refused.ensures) c.client_rows-own.ensures c.rows-rows.ensures (ap number_in c.in_default.is) in
    (p.1, p.3)

pub returns : goal.returns
returns c = let a = c.args in
    let p = passes a.state a.client a.line.now a.out.now c.in_range.ensures (ap not c.is_connected-refused.ensures) c.client_rows-own.ensures c.rows-rows.ensures (ap number_in c.in_default.is) in
    let all = answered_line a.state a.client a.line.now a.out.now p.0 p.2
    (as_given (written_effect a.state a.client a.line.now (sym c.is_blank.ensures ∙ c.if-is_blank.false)) c.answer_line.ensures) in
    record { value = all.0; out_after = all.1 }
