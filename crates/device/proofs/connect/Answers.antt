-- The rows are those of the call; one that none declines greets the newcomer, tells the others, and keeps the address.
use mathlib.Core.Path.{refl, ap, ◌∙◌}
use Rattle.machine.specs.Refusals.{number_in}
use Rattle.machine.specs.Declined.{Action, Connect, action_declined, refusal}
use Rattle.machine.specs.Machine.{perform}
use Rattle.declining.proofs.AnswerLaws.{declined_by, turned_away, performed}
use Rattle.device.proofs.RowLaws.{client_same, refused_by, connect_passes}
use Rattle.device.proofs.connect.Goals as goal

pub returns-in-Err : goal.returns-in-Err
unfolding action_declined refusal
returns-in-Err c = let a = c.args in
    let asked : Action = Connect a.client a.address.now in
    let refused = refused_by a.state.sheet.profile c.is_connected.ensures c.is_single.ensures in
    let row = c.client_rows-own.ensures ∙ client_same a.state.sheet.profile a.client refused c.address_row.ensures in
    let all = turned_away a.state asked a.out.now (declined_by a.state asked a.out.now c.in_range.ensures row c.rows-rows.ensures) c.in-Err.is refl c.silent.ensures in
    record { value = all.0; out_after = all.1 }

pub greet-written-requires : goal.greet-written-requires
greet-written-requires c = let a = c.args in
    connect_passes a.state a.out.now _ a.client a.address.now c.in_range.ensures c.address_row.ensures c.client_rows-own.ensures c.rows-rows.ensures (ap number_in c.in_default.is)

pub newcomer-requires : goal.newcomer-requires
newcomer-requires c = let a = c.args in
    (connect_passes a.state a.out.now _ a.client a.address.now c.in_range.ensures c.address_row.ensures c.client_rows-own.ensures c.rows-rows.ensures (ap number_in c.in_default.is)).1

pub with_client-requires : goal.with_client-requires
with_client-requires c = let a = c.args in
    (connect_passes a.state a.out.now _ a.client a.address.now c.in_range.ensures c.address_row.ensures c.client_rows-own.ensures c.rows-rows.ensures (ap number_in c.in_default.is)).0

pub returns : goal.returns
unfolding action_declined perform
returns c = let a = c.args in
    let asked : Action = Connect a.client a.address.now in
    let refused = refused_by a.state.sheet.profile c.is_connected.ensures c.is_single.ensures in
    let row = c.client_rows-own.ensures ∙ client_same a.state.sheet.profile a.client refused c.address_row.ensures in
    let number = declined_by a.state asked a.out.now c.in_range.ensures row c.rows-rows.ensures ∙ ap number_in c.in_default.is in
    let all = performed a.state asked a.out.now number c.with_client.ensures (rw c.newcomer.ensures) c.greet-written.ensures in
    record { value = all.0; out_after = all.1 }
