-- Number 1 tells of a state out of range, and of nothing else.
use Rattle.std.specs.Prelude.{Some, None, Option}
use Rattle.value.specs.declared.Sample.{Sample}
use Prim.Native.Nat.{ℕ}
use mathlib.Core.Path.{◌≡◌, ◌∙◌, refl}
use mathlib.Core.Bool.{Bool, true, cond, not, false}
use native.Mathlib.Omega.{arith}
use lib.Dec.{eqb, ltb}
use lib.ListN.{length}
use Rattle.value.specs.Reading.{sample_of}
use Rattle.value.specs.Answer.{sampled_number}
use Rattle.machine.specs.declared.Sensor.{Sensor}
use Rattle.machine.specs.declared.Sheet.{Sheet}
use Rattle.machine.specs.declared.State.{State}
use Rattle.machine.specs.Sheet.{single, last_client, sensor_of, not_on_sheet}
use Rattle.machine.specs.State.{connected}
use Rattle.machine.specs.Range.{in_range}
use Rattle.machine.specs.Requests.{asked}
use Rattle.machine.specs.Declined.{Arrival, Action, Connect, Disconnect, Tick, Reading, Log, Line, Call, above_last, client_declined, connect_refused, address_fits, tick_fits, entry_fits, line_declined, reading_declined, action_declined, declined}
use Rattle.machine.specs.Machine.{Effect, step}
use Rattle.machine.proofs.TestLaws.{cond_either}
use Rattle.machine.proofs.StepLaws.{by_cases}
use Rattle.machine.proofs.LineNumbers.{line_number}
use borrow.Author.Tests.{eqb-false}

-- another number than 1
abbrev NotOne : ℕ → Type 0
NotOne n = n ≡ 1 → ⊥

-- a number that is written out
not_one : (n : ℕ) → eqb n 1 ≡ false → NotOne n
not_one n h = eqb-false n 1 h

client_not : (profile : ℕ) (refused : Bool) (c rest : ℕ) → NotOne rest → NotOne (client_declined profile refused c rest)
unfolding client_declined
client_not profile refused c rest h = cond_either NotOne (ltb (last_client profile) c) (above_last profile) (cond refused 6 rest) (cond_either NotOne (single profile) 32 5 (not_one 32 refl) (not_one 5 refl)) (cond_either NotOne refused 6 rest (not_one 6 refl) h)

sampled_not : (a : Option Sample) → NotOne (sampled_number a)
sampled_not (Some x) = not_one 0 refl
sampled_not None = not_one 10 refl

reading_not : (n : Sensor) (clock : ℕ) (r : Arrival) → NotOne (reading_declined n clock r)
unfolding reading_declined
reading_not n clock r = cond_either NotOne (eqb (sampled_number (sample_of n.kind n.option_count r.reading)) 0) _ _
    (cond_either NotOne (ltb clock r.time) 26 0 (not_one 26 refl) (not_one 0 refl)) (sampled_not (sample_of n.kind n.option_count r.reading))

action_not : (sheet : Sheet) (s : State) (d : Action) → NotOne (action_declined sheet s d)
unfolding action_declined
action_not sheet s (Connect c address) = client_not sheet.profile (connect_refused sheet.profile (connected s c)) c (cond (address_fits address) 0 7) (cond_either NotOne (address_fits address) 0 7 (not_one 0 refl) (not_one 7 refl))
action_not sheet s (Disconnect c) = client_not sheet.profile (not (connected s c)) c 0 (not_one 0 refl)
action_not sheet s (Tick t) = cond_either NotOne (tick_fits s t) 0 8 (not_one 0 refl) (not_one 8 refl)
action_not sheet s (Reading j g) = cond_either NotOne (not_on_sheet sheet j) 9 _ (not_one 9 refl) (reading_not (sensor_of sheet j) s.clock g)
action_not sheet s (Log level logger said) = cond_either NotOne (entry_fits level logger said) 0 11 (not_one 0 refl) (not_one 11 refl)
action_not sheet s (Line c line) = client_not sheet.profile (not (connected s c)) c (line_declined sheet (asked line)) (λ e. let h = line_number sheet (asked line) (λ z. omega (arith, e, z)) in omega (arith, e, h.0))

declined_not : (sheet : Sheet) (s : State) (call : Call) → in_range s ≡ true → NotOne (declined sheet s call)
unfolding declined
declined_not sheet s call h = rw h
    (cond_either NotOne (ltb (length call.lent) 65536) 2 _ (not_one 2 refl) (cond_either NotOne s.halted 3 (action_declined sheet s call.action) (not_one 3 refl) (action_not sheet s call.action)))

pub never_one_in_range : (s : State) (call : Call) → in_range s ≡ true → NotOne (step s call).number
never_one_in_range s call h = by_cases (λ (e : Effect). NotOne e.number) s call (λ q. (not_one 0 refl)) (λ n q k. declined_not s.sheet s call h (q ∙ k))
