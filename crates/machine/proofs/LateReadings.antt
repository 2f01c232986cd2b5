-- Document 02, (g): readings by their own time.
use Prim.Native.Nat.{ℕ, zero, suc, ◌≤◌, ◌<◌}
use native.Mathlib.Nat.{le_trans}
use native.Mathlib.Omega.{arith}
use mathlib.Core.Path.{◌≡◌, refl, ap, ap₂, sym, ◌∙◌, subst}
use mathlib.Core.Bool.{Bool, true, false, cond, not, ◌&&◌, true≢false}
use mathlib.Core.List.{List, [], ◌∷◌, ◌++◌, map}
use Rattle.std.specs.Prelude.{Option, None, Some}
use lib.Dec.{eqb, leb, ltb}
use lib.ListN.{length}
use borrow.Author.Tests.{leb-true, le-leb, le-ltb}
use Rattle.output.specs.Text.{text}
use Rattle.message.specs.Delivery.{packet}
use Rattle.value.specs.declared.Reading.{Reading as Given}
use Rattle.value.specs.Reading.{sample_of}
use Rattle.value.specs.Answer.{sampled_number}
use Rattle.machine.specs.declared.State.{State}
use Rattle.machine.specs.Places.{is_zero}
use Rattle.machine.specs.Sheet.{sensor_of, not_on_sheet}
use Rattle.machine.specs.State.{stored_of, present, is_unknown, supersedes}
use Rattle.machine.specs.Range.{in_range}
use Rattle.machine.specs.Opening.{Start}
use Rattle.machine.specs.Messages.{status_for, inform_with, value_args, value_inform}
use Rattle.machine.specs.Report.{Work}
use Rattle.machine.specs.Declined.{Arrival, arrival, Action, Connect, Disconnect, Tick, Reading, Log, Line, Call, call_of, rows_behind, reading_declined, action_declined, declined, refusal}
use Rattle.machine.specs.Machine.{Effect, step, stored_given}
use Rattle.machine.specs.TwoDevices.{after, sheet_of, returned_zero, packets_of, superseding, reading_by, last_reading, sample_from, time_from, clock_of}
use Rattle.machine.specs.LateReadings.{Newer, Older, reading_step, LateReadings}
use Rattle.machine.proofs.TestLaws.{or_in, cond_either, cond_cases, cond_true, not_none, eqb_refl}
use Rattle.machine.proofs.RangeLaws.{range_out, sensors_of, stored_is}
use Rattle.machine.proofs.StepLaws.{by_cases, accepted, reading_fits, by_superseding}
use Rattle.machine.proofs.SampleRange.{unknown_is}
use Rattle.machine.proofs.KeptInRange.{after_in_range}
use Rattle.machine.proofs.SupersedingLaws.{stored_next}
use Rattle.machine.proofs.ListLaws.{sheet_is, clock_is, stored_by, by_newer, sent_packets}
use Rattle.machine.proofs.TellsLaws.{sheet_rules}

-- One call.

number_is : (s : State) (call : Call) → (step s call).number ≡ declined s.sheet s call
number_is s call = by_cases (λ (e : Effect). e.number ≡ declined s.sheet s call) s call (λ z. sym z) (λ n e. sym e)

-- the last of the rows is asked behind the others
rows_last : (a b c d : Bool) (n last : ℕ)
    → cond a 1 (cond b 2 (cond c 3 (cond d 9 (rows_behind n last)))) ≡ rows_behind (cond a 1 (cond b 2 (cond c 3 (cond d 9 (rows_behind n 0))))) last
rows_last true b c d n last = refl
rows_last false true c d n last = refl
rows_last false false true d n last = refl
rows_last false false false true n last = refl
rows_last false false false false zero last = refl
rows_last false false false false (suc n) last = rw (not_none n, not_none n) refl

row_ahead : (s : State) (j : ℕ) (g : Given) (t : ℕ) (lent : List ℕ) → (reading_step s j g t lent).number ≡ rows_behind (reading_step s j g 0 lent).number (cond (ltb s.clock t) 26 0)
unfolding declined action_declined reading_declined
row_ahead s j g t lent = number_is s (call_of (Reading j (arrival g t)) lent)
    ∙ (rows_last (not (in_range s)) (ltb (length lent) 65536) s.halted (not_on_sheet s.sheet j) fit (cond (ltb s.clock t) 26 0)
    ∙ ap (λ n. rows_behind n (cond (ltb s.clock t) 26 0)) (sym (number_is s (call_of (Reading j (arrival g 0)) lent) ∙ at_zero)))
  where
    fit : ℕ
    fit = sampled_number (sample_of (sensor_of s.sheet j).kind (sensor_of s.sheet j).option_count g)

    -- no time 0 is above the clock
    at_zero : declined s.sheet s (call_of (Reading j (arrival g 0)) lent) ≡ cond (not (in_range s)) 1 (cond (ltb (length lent) 65536) 2 (cond s.halted 3 (cond (not_on_sheet s.sheet j) 9 (rows_behind fit 0))))
    at_zero = rw (le-ltb s.clock 0 (omega arith)) refl

refused_left : (s : State) (j : ℕ) (g : Given) (t : ℕ) (lent : List ℕ) → ((reading_step s j g t lent).number ≡ 0 → ⊥)
    → ((reading_step s j g t lent).sent ≡ []) × ((reading_step s j g t lent).next ≡ s)
unfolding refusal
refused_left s j g t lent = by_cases (λ (e : Effect). (e.number ≡ 0 → ⊥) → (e.sent ≡ []) × (e.next ≡ s)) s (call_of (Reading j (arrival g t)) lent) (λ _ h. absurd (h refl)) (λ n _ h. (refl, refl))

unknown_yields : (s : State) (j : ℕ) (g : Given) (t : ℕ) (lent : List ℕ) → (reading_step s j g t lent).number ≡ 0 → status_for (sensor_of s.sheet j) (present s j) ≡ 0
    → stored_of (reading_step s j g t lent).next j ≡ stored_given (sensor_of s.sheet j) (arrival g t)
unfolding supersedes
unknown_yields s j g t lent z u = by_cases (λ (e : Effect). e.number ≡ 0 → stored_of e.next j ≡ stored_given (sensor_of s.sheet j) (arrival g t)) s call
    (λ d _. by_superseding (λ (w : Work). stored_of w.next j ≡ stored_given (sensor_of s.sheet j) (arrival g t)) s.sheet s j (arrival g t)
    (λ _. stored_next s j j (place d) (arrival g t) ∙ cond_true (eqb j j) _ _ (eqb_refl j))
    (λ e. absurd (true≢false (sym (or_in (leb (stored_of s j).time t) (is_unknown (present s j)) (unknown_is (sensor_of s.sheet j) (present s j) u)) ∙ e))))
    (λ n _ e. absurd (omega (arith, e))) z
  where
    call : Call
    call = call_of (Reading j (arrival g t)) lent

    place : declined s.sheet s call ≡ 0 → j < 32
    place d = let a = accepted s call d in omega (arith, (reading_fits s j (arrival g t) a.fits).on_sheet, (sensors_of s (range_out s a.in_range_lem)).count_most)

-- Over a list of calls.

module _ (start : Start) (j : ℕ) where
  -- a sensor of the sheet has its place in the arrays
  place : j < (sheet_of start).count → j < 32
  place hs = omega (arith, (sheet_rules start).count_most)

  -- a reading that returned 0 is of a sensor on the sheet
  on_sheet : (r : Arrival) (lent : List ℕ) (h : List Call) → returned_zero start h (call_of (Reading j r) lent) ≡ true → j < (sheet_of start).count
  on_sheet r lent h = by_cases (λ (e : Effect). is_zero e.number ≡ true → j < (sheet_of start).count) (after start h) (call_of (Reading j r) lent)
      (λ z _. subst (λ sheet. j < sheet.count) (sheet_is start h) (reading_fits (after start h) j r (accepted (after start h) (call_of (Reading j r) lent) z).fits).on_sheet)
      (λ n _ e. absurd (true≢false (sym e)))

  passed_over : (r : Arrival) (lent : List ℕ) (h : List Call) → Older start j r lent h
      → (packets_of start h (call_of (Reading j r) lent) ≡ []) × (after start (call_of (Reading j r) lent ∷ h) ≡ after start h)
  unfolding after
  passed_over r lent h o = (sent_packets start 0 h (call_of (Reading j r) lent) ∙ ap (map packet) left.0, left.1)
    where
      hs : j < (sheet_of start).count
      hs = on_sheet r lent h o.accepted

      left : ((step (after start h) (call_of (Reading j r) lent)).sent ≡ []) × ((step (after start h) (call_of (Reading j r) lent)).next ≡ after start h)
      left = by_newer start j (place hs) hs (λ (e : Effect). (e.sent ≡ []) × (e.next ≡ after start h)) r lent h o.accepted (λ e. absurd (true≢false (sym e ∙ o.older))) (λ _. (refl, refl))

  stored : (r : Arrival) (lent : List ℕ) (h : List Call) → Newer start j r lent h → stored_of (after start (call_of (Reading j r) lent ∷ h)) j ≡ stored_given (sensor_of (sheet_of start) j) r
  unfolding after
  stored r lent h o = by_newer start j (place hs) hs (λ (e : Effect). stored_of e.next j ≡ stored_given (sensor_of (sheet_of start) j) r) r lent h o.accepted
      (λ _. stored_next (after start h) j j (place hs) r ∙ (cond_true (eqb j j) _ _ (eqb_refl j) ∙ ap (λ sheet. stored_given (sensor_of sheet j) r) (sheet_is start h)))
      (λ e. absurd (true≢false (sym o.newer ∙ e)))
    where
      hs : j < (sheet_of start).count
      hs = on_sheet r lent h o.accepted

  shown : j < (sheet_of start).count → (id : ℕ) (h : List Call) → value_inform id (after start h) (sheet_of start) j
      ≡ inform_with id (text "sensor-value") (value_args (time_from (last_reading start j h)) (sensor_of (sheet_of start) j) (sample_from (sensor_of (sheet_of start) j) (last_reading start j h)))
  unfolding value_inform
  shown hs id h = let k = stored_by start j (place hs) hs h in ap₂ (λ t x. inform_with id (text "sensor-value") (value_args t (sensor_of (sheet_of start) j) x)) k.time_is k.sample_is

  never_ahead : j < (sheet_of start).count → (h : List Call) → time_from (last_reading start j h) ≤ clock_of start h
  never_ahead hs h = rw (← (stored_by start j (place hs) hs h).time_is, ← clock_is start h)
      (stored_is (after start h) (range_out (after start h) (after_in_range start h)) j (subst (λ sheet. j < sheet.count) (sym (sheet_is start h)) hs) (place hs)).1

  later_time : (action : Action) (before : Option Arrival) → time_from before ≤ time_from (reading_by j action before)
  later_time (Connect c address) before = omega arith
  later_time (Disconnect c) before = omega arith
  later_time (Tick t) before = omega arith
  later_time (Reading k r) before = go (eqb k j) before
    where
      go : (b : Bool) (o : Option Arrival) → time_from o ≤ time_from (cond (b && superseding r.time o) (Some r) o)
      go false o = omega arith
      go true None = omega arith
      go true (Some old) = cond_cases (λ o. old.time ≤ time_from o) (leb old.time r.time) (Some r) (Some old) (λ e. leb-true old.time r.time e) (λ _. omega arith)
  later_time (Log level logger said) before = omega arith
  later_time (Line c line) before = omega arith

  never_back : (later h : List Call) → time_from (last_reading start j h) ≤ time_from (last_reading start j (later ++ h))
  unfolding last_reading
  never_back [] h = omega arith
  never_back (call ∷ later) h = le_trans (never_back later h) (cond_either (λ o. time_from (last_reading start j (later ++ h)) ≤ time_from o) (returned_zero start (later ++ h) call) _ _
      (later_time call.action (last_reading start j (later ++ h))) (omega arith))

  at_clock : j < (sheet_of start).count → (h : List Call) → superseding (clock_of start h) (last_reading start j h) ≡ true
  at_clock hs h = go (last_reading start j h) (never_ahead hs h)
    where
      go : (o : Option Arrival) → time_from o ≤ clock_of start h → superseding (clock_of start h) o ≡ true
      go None l = refl
      go (Some r) l = le-leb r.time (clock_of start h) l

-- document 02, (g)
pub late_readings : LateReadings
late_readings = record {
  ahead = row_ahead;
  left_as_it_was = refused_left;
  unknown_yields = unknown_yields;
  passed_over = λ start j r lent h o. passed_over start j r lent h o;
  stored = λ start j r lent h o. stored start j r lent h o;
  never_ahead = λ start j hs h. never_ahead start j hs h;
  shown = λ start j hs id h. shown start j hs id h;
  never_back = λ start j later h. never_back start j later h;
  at_clock = λ start j hs h. at_clock start j hs h;
}
