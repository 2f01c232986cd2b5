-- The rows are those of the call; one that none declines sets the clock and visits.
use mathlib.Core.Path.{refl, ap, ◌∙◌}
use mathlib.Core.Bool.{true}
use Rattle.machine.specs.declared.Cause.TheVariants.{Tick as Ticked}
use Rattle.machine.specs.Refusals.{number_in}
use Rattle.machine.specs.Declined.{Tick, tick_fits, action_declined, refusal}
use Rattle.machine.specs.Machine.{perform}
use Rattle.declining.proofs.AnswerLaws.{declined_by, turned_away}
use Rattle.device.proofs.ExitLaws.{visited}
use Rattle.device.proofs.tick.Goals as goal

pub returns-in-Err : goal.returns-in-Err
unfolding tick_fits action_declined refusal
returns-in-Err c = let a = c.args in
    let all = turned_away a.state (Tick a.ms) a.out.now (declined_by a.state (Tick a.ms) a.out.now c.in_range.ensures c.tick_row-own.ensures c.rows-rows.ensures) c.in-Err.is refl c.silent.ensures in
    record { value = all.0; out_after = all.1 }

pub returns : goal.returns
unfolding tick_fits action_declined refusal perform
returns c = let a = c.args in
    let number = declined_by a.state (Tick a.ms) a.out.now c.in_range.ensures c.tick_row-own.ensures c.rows-rows.ensures ∙ ap number_in c.in_default.is in
    let all = visited a.state (Tick a.ms) a.out.now true Ticked a.ms a.state.readings number refl
    (λ z. refl) (λ z. absurd (z refl)) c.visit.ensures.number_value c.visit.ensures.state_value c.visit.ensures.sent in
    record { value = all.0; out_after = all.1 }
