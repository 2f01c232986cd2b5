-- The rows are those of the call; one that none declines sends its entry and changes nothing.
use mathlib.Core.Path.{refl, ap, ◌∙◌}
use Rattle.machine.specs.Refusals.{number_in}
use Rattle.machine.specs.Declined.{Action, Log, action_declined, refusal}
use Rattle.machine.specs.Machine.{entries, perform}
use Rattle.declining.proofs.AnswerLaws.{declined_by, turned_away, performed}
use Rattle.device.proofs.log.Goals as goal

pub returns-in-Err : goal.returns-in-Err
unfolding action_declined refusal
returns-in-Err c = let a = c.args in
    let asked : Action = Log a.level a.logger.now a.message.now in
    let all = turned_away a.state asked a.out.now (declined_by a.state asked a.out.now c.in_range.ensures c.entry_row-own.ensures c.rows-rows.ensures) c.in-Err.is refl c.silent.ensures in
    record { value = all.0; out_after = all.1 }

pub returns : goal.returns
unfolding action_declined perform entries
returns c = let a = c.args in
    let asked : Action = Log a.level a.logger.now a.message.now in
    let number = declined_by a.state asked a.out.now c.in_range.ensures c.entry_row-own.ensures c.rows-rows.ensures ∙ ap number_in c.in_default.is in
    let all = performed a.state asked a.out.now number refl refl c.put_entry-written.ensures in
    record { value = all.0; out_after = all.1 }
