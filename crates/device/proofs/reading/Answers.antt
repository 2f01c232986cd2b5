-- The rows are those of the call; one that none declines stores the sample and visits, unless the reading is older than the stored one.
use borrow.Author.Rules.{rules}
use Prim.Native.Nat.{◌<◌}
use mathlib.Core.Path.{refl, ap, ◌∙◌}
use Rattle.machine.specs.Refusals.{number_in}
use Rattle.machine.specs.declared.Cause.TheVariants.{Reading as Read}
use Rattle.machine.specs.Declined.{Action, arrival, Reading, refusal}
use Rattle.machine.proofs.RefusalLaws.{not_zero}
use Rattle.declining.proofs.AnswerLaws.{turned_away}
use Rattle.device.proofs.ReadingLaws.{read_either, declined_before, sensor_place, reading_number, reading_done}
use Rattle.device.proofs.ExitLaws.{visited}
use Rattle.device.proofs.reading.Goals as goal

pub returns-in-Err : goal.returns-in-Err
unfolding refusal
returns-in-Err c = let a = c.args in
    let asked : Action = Reading a.sensor (arrival a.reading a.time) in
    let before = declined_before a.state a.sensor a.reading a.time a.out.now c.in_range.ensures c.sensor_row-own.ensures c.rows-rows.ensures (not_zero c.in-Err.is) in
    let all = turned_away a.state asked a.out.now before c.in-Err.is refl c.silent.ensures in
    record { value = all.0; out_after = all.1 }

pub bounds-state-sensor : goal.bounds-state-sensor
bounds-state-sensor c = let a = c.args in
    sensor_place a.state a.sensor a.reading a.time a.out.now c.in_range.ensures c.sensor_row-own.ensures c.rows-rows.ensures (ap number_in c.in_default.is)

pub bounds-state-sensor-2 : goal.bounds-state-sensor-2
bounds-state-sensor-2 c = let a = c.args in
    sensor_place a.state a.sensor a.reading a.time a.out.now c.in_range.ensures c.sensor_row-own.ensures c.rows-rows.ensures (ap number_in c.in_default.is)

pub store-readings-requires : goal.store-readings-requires
store-readings-requires c = let a = c.args in
    sensor_place a.state a.sensor a.reading a.time a.out.now c.in_range.ensures c.sensor_row-own.ensures c.rows-rows.ensures (ap number_in c.in_default.is)

pub returns-in-Err-sample_taken : goal.returns-in-Err-sample_taken
unfolding refusal
returns-in-Err-sample_taken c = let a = c.args in
    let asked : Action = Reading a.sensor (arrival a.reading a.time) in
    let number = reading_number a.state a.sensor a.reading a.time a.out.now c.in_range.ensures c.sensor_row-own.ensures c.rows-rows.ensures (ap number_in c.in_default.is) c.sample_of-sampled.ensures c.time_row.ensures c.sample_taken.ensures.number in
    let all = turned_away a.state asked a.out.now number c.in-Err-sample_taken.is refl c.silent-in-Err-sample_taken.ensures in
    record { value = all.0; out_after = all.1 }

-- a newer one is stored, and its subscriptions visited; an older one changes nothing
pub returns : goal.returns
unfolding refusal
returns c = let a = c.args in
    let asked : Action = Reading a.sensor (arrival a.reading a.time) in
    let number = reading_number a.state a.sensor a.reading a.time a.out.now c.in_range.ensures c.sensor_row-own.ensures c.rows-rows.ensures (ap number_in c.in_default.is) c.sample_of-sampled.ensures c.time_row.ensures c.sample_taken.ensures.number in
    let here : a.sensor < 32 = sensor_place a.state a.sensor a.reading a.time a.out.now c.in_range.ensures c.sensor_row-own.ensures c.rows-rows.ensures (ap number_in c.in_default.is) in
    let done = read_either a.state a.sensor (record { sample = c.in-Ok.sample; time = a.time }) c.does_supersede-newer.ensures c.store-readings.ensures (search rules) here ∙ reading_done a.state a.sensor a.reading a.time a.out.now c.in_range.ensures c.sensor_row-own.ensures c.rows-rows.ensures (ap number_in c.in_default.is) c.sample_of-sampled.ensures (rw c.in-Ok.is at c.sample_taken.ensures.sample) in
    let all = visited a.state asked a.out.now c.does_supersede-newer.result (Read a.sensor) a.state.clock c.store-readings.result (number ∙ ap number_in c.in-Ok.is) refl
    (λ z. done) (λ z. absurd (z refl)) c.visit.ensures.number_value c.visit.ensures.state_value c.visit.ensures.sent in
    record { value = all.0; out_after = all.1 }
