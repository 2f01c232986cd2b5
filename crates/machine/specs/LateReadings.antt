-- Document 02, (g), "Readings that arrive late", of one call and over whole lists of calls.
use Rattle.std.specs.Prelude.{ℕ, ◌≤◌, ◌<◌, ◌≡◌, true, false, cond, List, [], ◌∷◌, ◌++◌, ltb}
use Rattle.output.specs.Text.{text}
use Rattle.value.specs.declared.Reading.{Reading as Given}
use Rattle.machine.specs.declared.State.{State}
use Rattle.machine.specs.Sheet.{sensor_of}
use Rattle.machine.specs.Opening.{Start}
use Rattle.machine.specs.State.{stored_of, present}
use Rattle.machine.specs.Messages.{status_for, inform_with, value_args, value_inform}
use Rattle.machine.specs.Declined.{Arrival, arrival, Reading, Call, call_of, rows_behind}
use Rattle.machine.specs.Machine.{Effect, step, stored_given}
use Rattle.machine.specs.TwoDevices.{after, sheet_of, returned_zero, packets_of, superseding, last_reading, sample_from, time_from, clock_of}

-- a reading of sensor j, behind the calls h, that returned 0 and supersedes the one stored before it
pub record Newer (start : Start) (j : ℕ) (r : Arrival) (lent : List ℕ) (h : List Call) : Type 0 where
  pub accepted : returned_zero start h (call_of (Reading j r) lent) ≡ true
  pub newer : superseding r.time (last_reading start j h) ≡ true

-- and one that does not: "An older one is accepted"
pub record Older (start : Start) (j : ℕ) (r : Arrival) (lent : List ℕ) (h : List Call) : Type 0 where
  pub accepted : returned_zero start h (call_of (Reading j r) lent) ≡ true
  pub older : superseding r.time (last_reading start j h) ≡ false

-- what a call of a reading comes to in a state, with a time of its own
abbrev pub reading_step : State → ℕ → Given → ℕ → List ℕ → Effect
reading_step s j g t lent = step s (call_of (Reading j (arrival g t)) lent)

-- `ahead`: "26 .. when the reading's time is above the clock, tested after 10": behind the rows that decline this reading whatever its time.
-- `left_as_it_was`: "with state and output left as they were", as at every row of this call.
-- `unknown_yields`: it supersedes "if the stored status is unknown", 0 in Table 8, in every state, whatever the times.
-- `passed_over`: "An older one is accepted, changes nothing and causes no report, under auto too": no delivery at all.
-- `stored`: one that supersedes is stored, with its own time.
-- `shown`: "`sensor-value` shows the reading's own time", that of the present reading by the list.
-- `never_ahead`: that time is at most the clock.
-- `never_back`: and never goes back.
-- `at_clock`: so a reading that brings the clock supersedes any ("the console gives the clock").
pub record LateReadings : Type 0 where
  pub ahead : (s : State) (j : ℕ) (g : Given) (t : ℕ) (lent : List ℕ)
      → (reading_step s j g t lent).number ≡ rows_behind (reading_step s j g 0 lent).number (cond (ltb s.clock t) 26 0)
  pub left_as_it_was : (s : State) (j : ℕ) (g : Given) (t : ℕ) (lent : List ℕ) → ((reading_step s j g t lent).number ≡ 0 → ⊥)
      → ((reading_step s j g t lent).sent ≡ []) × ((reading_step s j g t lent).next ≡ s)
  pub unknown_yields : (s : State) (j : ℕ) (g : Given) (t : ℕ) (lent : List ℕ) → (reading_step s j g t lent).number ≡ 0
      → status_for (sensor_of s.sheet j) (present s j) ≡ 0 → stored_of (reading_step s j g t lent).next j ≡ stored_given (sensor_of s.sheet j) (arrival g t)
  pub passed_over : (start : Start) (j : ℕ) (r : Arrival) (lent : List ℕ) (h : List Call) → Older start j r lent h
      → (packets_of start h (call_of (Reading j r) lent) ≡ []) × (after start (call_of (Reading j r) lent ∷ h) ≡ after start h)
  pub stored : (start : Start) (j : ℕ) (r : Arrival) (lent : List ℕ) (h : List Call) → Newer start j r lent h
      → stored_of (after start (call_of (Reading j r) lent ∷ h)) j ≡ stored_given (sensor_of (sheet_of start) j) r
  pub shown : (start : Start) (j : ℕ) → j < (sheet_of start).count → (id : ℕ) (h : List Call) → value_inform id (after start h) (sheet_of start) j
      ≡ inform_with id (text "sensor-value") (value_args (time_from (last_reading start j h)) (sensor_of (sheet_of start) j) (sample_from (sensor_of (sheet_of start) j) (last_reading start j h)))
  pub never_ahead : (start : Start) (j : ℕ) → j < (sheet_of start).count → (h : List Call) → time_from (last_reading start j h) ≤ clock_of start h
  pub never_back : (start : Start) (j : ℕ) (later h : List Call) → time_from (last_reading start j h) ≤ time_from (last_reading start j (later ++ h))
  pub at_clock : (start : Start) (j : ℕ) → j < (sheet_of start).count → (h : List Call) → superseding (clock_of start h) (last_reading start j h) ≡ true
