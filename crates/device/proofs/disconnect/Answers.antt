-- The rows are those of the call; one that none declines sends nothing and forgets its client.
use mathlib.Core.Path.{refl, ◌∙◌, ap}
use mathlib.Core.Bool.{not}
use Rattle.message.proofs.DeliveryLaws.{none_sent}
use Rattle.machine.specs.Refusals.{number_in}
use Rattle.machine.specs.Declined.{Action, Disconnect, action_declined, refusal}
use Rattle.machine.specs.Machine.{perform}
use Rattle.machine.proofs.StepLaws.{client_fits}
use Rattle.declining.proofs.AnswerLaws.{own_passes, declined_by, turned_away, performed}
use Rattle.device.proofs.RowLaws.{client_same}
use Rattle.device.proofs.disconnect.Goals as goal

pub returns-in-Err : goal.returns-in-Err
unfolding action_declined refusal
returns-in-Err c = let a = c.args in
    let asked : Action = Disconnect a.client in
    let row = c.client_rows-own.ensures ∙ client_same a.state.sheet.profile a.client (ap not c.is_connected-refused.ensures) refl in
    let all = turned_away a.state asked a.out.now (declined_by a.state asked a.out.now c.in_range.ensures row c.rows-rows.ensures) c.in-Err.is refl c.silent.ensures in
    record { value = all.0; out_after = all.1 }

pub with_client-requires : goal.with_client-requires
with_client-requires c = let a = c.args in
    (client_fits a.state.sheet.profile _ a.client 0 (own_passes a.state a.out.now c.in_range.ensures c.client_rows-own.ensures c.rows-rows.ensures (ap number_in c.in_default.is))).0

pub returns : goal.returns
unfolding action_declined perform
returns c = let a = c.args in
    let asked : Action = Disconnect a.client in
    let row = c.client_rows-own.ensures ∙ client_same a.state.sheet.profile a.client (ap not c.is_connected-refused.ensures) refl in
    let number = declined_by a.state asked a.out.now c.in_range.ensures row c.rows-rows.ensures ∙ ap number_in c.in_default.is in
    let all = performed a.state asked a.out.now number c.with_client.ensures (rw c.blank_client.ensures) none_sent in
    record { value = all.0; out_after = all.1 }
