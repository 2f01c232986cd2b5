-- The call `reading`: its rows, and what is visited where none declines.
use Rattle.std.specs.Prelude.{Some, Option}
use Prim.Native.Nat.{ℕ, ◌<◌}
use native.Mathlib.Omega.{arith}
use mathlib.Core.Path.{◌≡◌, sym, ◌∙◌, ap}
use mathlib.Core.Bool.{Bool, true, false, cond, not}
use mathlib.Core.List.{List, [], ◌∷◌}
use lib.Dec.{leb, ltb}
use lib.ListN.{length, set}
use borrow.Author.Tests.{leb-false, not-false}
use Rattle.value.specs.declared.Reading.{Reading as Given}
use Rattle.value.specs.declared.Sample.{Sample}
use Rattle.value.specs.Reading.{sample_of}
use Rattle.value.specs.Answer.{sampled_number}
use Rattle.machine.specs.declared.State.{State}
use Rattle.machine.specs.declared.Cause.TheVariants.{Reading as Read}
use Rattle.machine.specs.declared.Stored.{Stored}
use Rattle.machine.specs.declared.Sensor.{Sensor}
use Rattle.machine.specs.Sheet.{sensor_of}
use Rattle.machine.specs.Range.{in_range}
use Rattle.machine.specs.Declined.{Arrival, arrival, Reading, rows_behind, reading_declined, action_declined, declined}
use Rattle.machine.specs.Machine.{sample_given, reading_work, perform}
use Rattle.machine.specs.Report.{Work, visit}
use Rattle.machine.specs.Requests.{sends_only}
use Rattle.machine.specs.State.{no_stored, stored_of, supersedes, with_readings, with_reading}
use Rattle.machine.proofs.RangeLaws.{range_out, sensors_of}
use Rattle.machine.proofs.StoreLaws.{set_by_place}
use Rattle.sampling.specs.Visits.{moment, visiting}
use Rattle.declining.proofs.AnswerLaws.{rows_then, number_of}
use Rattle.declining.proofs.RowsLaws.{Row, row, row_declines, rows_pass, rows_rest}

-- Rows 1, 2, 3 and 9, before row 10 is asked.

abbrev before : State → ℕ → List ℕ → List Row
before s j lent = row (not (in_range s)) 1 ∷ row (ltb (length lent) 65536) 2 ∷ row s.halted 3 ∷ row (leb s.sheet.count j) 9 ∷ []

-- the reading as the sensor at a place samples it
abbrev sampled_at : State → ℕ → Given → Option Sample
sampled_at s j r = sample_of (sensor_of s.sheet j).kind (sensor_of s.sheet j).option_count r

module _ (s : State) (j : ℕ) (r : Arrival) (lent : List ℕ) where
  -- the call `reading`, declined before row 10
  reading_declined_lem : {good : Bool} {own n : ℕ} → good ≡ in_range s → own ≡ cond (leb s.sheet.count j) 9 0 → n ≡ rows_then good s lent own → (n ≡ 0 → ⊥)
      → number_of s (Reading j r) lent ≡ n
  unfolding declined action_declined
  reading_declined_lem g f e h = sym (row_declines (before s j lent) (reading_declined (sensor_of s.sheet j) s.clock r) (e ∙ rw (g, f)) h)

  -- the call `reading`, not declined before row 10: the sensor is on the sheet, and rows 10 and 26 say the number
  reading_own : {good : Bool} {own n : ℕ} → good ≡ in_range s → own ≡ cond (leb s.sheet.count j) 9 0 → n ≡ rows_then good s lent own → n ≡ 0
      → (in_range s ≡ true) × ((j < s.sheet.count) × (number_of s (Reading j r) lent ≡ reading_declined (sensor_of s.sheet j) s.clock r))
  unfolding declined action_declined
  reading_own g f e h =
      let p = rows_pass (before s j lent) (omega arith, (omega arith, (omega arith, (omega arith, tt)))) (sym (e ∙ rw (g, f)) ∙ h) in
      (not-false (in_range s) p.0, (leb-false s.sheet.count j p.1.1.1.0, rows_rest (before s j lent) (reading_declined (sensor_of s.sheet j) s.clock r) p))

  -- and has its place in the arrays
  reading_place : {good : Bool} {own n : ℕ} → good ≡ in_range s → own ≡ cond (leb s.sheet.count j) 9 0 → n ≡ rows_then good s lent own → n ≡ 0 → j < 32
  reading_place g f e h =
      let p = reading_own g f e h in
      omega (arith, p.1.0, (sensors_of s (range_out s p.0)).count_most)

-- A reading that is taken.

-- its sample
given_is : (n : Sensor) (r : Arrival) {x : Sample} → sample_of n.kind n.option_count r.reading ≡ Some x → sample_given n r ≡ x
unfolding sample_given
given_is n r e = rw e

-- and the state with it
stored_reading : (s : State) (j : ℕ) (x : Stored) → length s.readings ≡ 32 → j < 32 → with_readings s (set s.readings j x) ≡ with_reading s j x
unfolding with_reading
stored_reading s j x e h = ap (with_readings s) (set_by_place s.readings j x no_stored (omega arith) ∙ rw e)

-- What a reading comes to that no row declines, by the test whether it supersedes the stored one.
module _ (s : State) (j : ℕ) (x : Stored) where
  abbrev reading_left : Work
  reading_left = cond (supersedes x.time (stored_of s j)) (visit s.sheet (with_reading s j x) (Read j)) (sends_only s [])

  pub read_older : supersedes x.time (stored_of s j) ≡ false → sends_only s [] ≡ reading_left
  read_older e = rw e

  pub read_newer : supersedes x.time (stored_of s j) ≡ true → length s.readings ≡ 32 → j < 32
      → visit s.sheet (moment s s.clock (set s.readings j x)) (Read j) ≡ reading_left
  read_newer e many h = rw e (ap (λ (t : State). visit s.sheet t (Read j)) (stored_reading s j x many h))

  -- either, of the readings that are handed to the visit
  pub read_either : {newer : Bool} {readings : List Stored} → newer ≡ supersedes x.time (stored_of s j) → readings ≡ cond newer (set s.readings j x) s.readings
      → length s.readings ≡ 32 → j < 32 → visiting newer (moment s s.clock readings) (Read j) ≡ reading_left
  read_either {newer = true} e q many h = rw q (read_newer (sym e) many h)
  read_either {newer = false} e q many h = rw q (read_older (sym e))

-- The whole call.
module _ (s : State) (j : ℕ) (g : Given) (time : ℕ) (lent : List ℕ) {good : Bool} (i : good ≡ in_range s) {own : ℕ} (f : own ≡ cond (leb s.sheet.count j) 9 0)
    {rows : ℕ} (e : rows ≡ rows_then good s lent own) where
  -- declined before row 10
  pub declined_before : (rows ≡ 0 → ⊥) → number_of s (Reading j (arrival g time)) lent ≡ rows
  declined_before h = reading_declined_lem s j (arrival g time) lent i f e h

  -- where rows 1, 2, 3 and 9 pass, the sensor has its place
  pub sensor_place : rows ≡ 0 → j < 32
  sensor_place h = reading_place s j (arrival g time) lent i f e h

  module _ (h : rows ≡ 0) {sampled : Option Sample} (x : sampled ≡ sampled_at s j g) where
    -- then the number is that of the sample, and of the time behind it
    pub reading_number : {ahead n : ℕ} → ahead ≡ cond (ltb s.clock time) 26 0 → n ≡ rows_behind (sampled_number sampled) ahead → number_of s (Reading j (arrival g time)) lent ≡ n
    unfolding reading_declined
    reading_number l k = (reading_own s j (arrival g time) lent i f e h).1.1 ∙ sym (k ∙ rw (l, x))

    -- and what is done is what the machine does
    pub reading_done : {y : Sample} → sampled ≡ Some y → reading_left s j (record { sample = y; time = time }) ≡ perform s.sheet s (Reading j (arrival g time))
    unfolding perform reading_work
    reading_done u = rw (given_is (sensor_of s.sheet j) (arrival g time) (sym x ∙ u))
