-- Under auto a reading that supersedes gives the archive one line, its report.
use Prim.Native.Nat.{ℕ, ◌+◌, ◌*◌, ◌/◌, ◌%◌, ◌≤◌, ◌<◌}
use native.Mathlib.Omega.{arith}
use mathlib.Core.Path.{◌≡◌, refl, ap, ap₂, sym, ◌∙◌, subst}
use mathlib.Core.Bool.{Bool, true, false, true≢false}
use mathlib.Core.List.{List, [], ◌∷◌, ◌++◌, map, append_assoc}
use lib.Dec.{eqb, ltb}
use borrow.Author.Tests.{eqb-true, lt-ltb}
use Rattle.message.specs.Message.{line}
use Rattle.message.specs.Delivery.{to}
use Rattle.line.specs.Line.{WellFormed}
use Rattle.machine.specs.declared.Sensor.{Sensor}
use Rattle.machine.specs.declared.State.{State}
use Rattle.machine.specs.declared.Stored.{Stored}
use Rattle.machine.specs.declared.Strategy.TheVariants.{Auto}
use Rattle.machine.specs.declared.Cause.TheVariants.{Reading as Read}
use Rattle.machine.specs.Places.{one_if}
use Rattle.machine.specs.Sheet.{sensor_of}
use Rattle.machine.specs.State.{connected, pair_at, pair_of, with_reading}
use Rattle.machine.specs.Opening.{Start}
use Rattle.machine.specs.Messages.{report, report_of}
use Rattle.machine.specs.Report.{due, due_by, due_at, pair_sends, visit}
use Rattle.machine.specs.Declined.{Arrival, Reading, Call, call_of}
use Rattle.machine.specs.Machine.{Effect, step, sample_given, stored_given}
use Rattle.machine.specs.Reader.{Reported, told_of}
use Rattle.machine.specs.TwoDevices.{after, sheet_of, connected_at_end, lines_to, lines_of, sent_to, strategy_of, clock_of}
use Rattle.machine.specs.LateReadings.{Newer}
use Rattle.machine.specs.Tells.{news_in, line_news, report_given, AutoShows}
use Rattle.machine.proofs.TestLaws.{and_true, cond_true, eqb_refl}
use Rattle.machine.proofs.StateLaws.{place_client, place_sensor, stored_after}
use Rattle.machine.proofs.RangeLaws.{range_out}
use Rattle.machine.proofs.KeptInRange.{after_in_range}
use Rattle.machine.proofs.OpenedRange.{opened_range}
use Rattle.machine.proofs.SampleRange.{given_fits}
use Rattle.machine.proofs.NewsLaws.{news_report}
use Rattle.machine.proofs.HeardLaws.{sent_at_one}
use Rattle.machine.proofs.FileLaws.{line_parses}
use Rattle.machine.proofs.SentSizes.{sound_report}
use Rattle.machine.proofs.Sent.{sound_well_formed}
use Rattle.machine.proofs.ListLaws.{sheet_is, clock_is, by_newer, sent_packets, at_end_small}
use Rattle.machine.proofs.ArchiveLaws.{lines_packed}
use Rattle.machine.proofs.TellsLaws.{sheet_rules, on, strategy_held}
use Rattle.machine.proofs.MomentLaws.{no_connect, still_on, more_lines, on_then, start_of}

module _ (s : State) (a j : ℕ) (ha : a < 8) (hj : j < 32) (x : Stored) where
  -- the state in which the pairs are visited
  abbrev read : State
  read = with_reading s j x

  -- a pair that a reading of sensor j makes report is one of that sensor
  concerned : (i : ℕ) → due_at s.sheet read (Read j) (i / 32) (i % 32) (pair_at read i) ≡ true → eqb j (i % 32) ≡ true
  unfolding due_at
  concerned i e = (and_true (eqb j (i % 32)) _ (and_true (ltb (i % 32) s.sheet.count) _ (and_true (connected read (i / 32)) _ e).1).1).0

  others_silent : (i : ℕ) → i < 256 → (i ≡ a * 32 + j → ⊥) → sent_to a (pair_sends s.sheet read (Read j) i) ≡ []
  unfolding pair_sends sent_to
  others_silent i l n = go (due_at s.sheet read (Read j) (i / 32) (i % 32) (pair_at read i)) (eqb (i / 32) a) refl refl
    where
      go : (b c : Bool) → due_at s.sheet read (Read j) (i / 32) (i % 32) (pair_at read i) ≡ b → eqb (i / 32) a ≡ c
          → sent_to a (one_if b (to (i / 32) (report_of s.sheet read (i % 32)))) ≡ []
      go false c p q = refl
      go true false p q = rw q
      go true true p q = absurd (n (omega (arith, eqb-true (i / 32) a q, eqb-true j (i % 32) (concerned i p))))

  own_report : connected s a ≡ true → j < s.sheet.count → (pair_of s a j).strategy ≡ Auto
      → sent_to a (pair_sends s.sheet read (Read j) (a * 32 + j)) ≡ report s.clock (sensor_of s.sheet j) x.sample ∷ []
  unfolding pair_sends sent_to due_at due due_by with_reading
  own_report on hs st = rw (place_client a j hj, place_sensor a j hj, on, lt-ltb j s.sheet.count hs, eqb_refl j, st, eqb_refl a)
      (ap (λ (y : Stored). report s.clock (sensor_of s.sheet j) y.sample ∷ []) (stored_after s j j x hj ∙ cond_true (eqb j j) _ _ (eqb_refl j)))

  pub sent_of_reading : connected s a ≡ true → j < s.sheet.count → (pair_of s a j).strategy ≡ Auto
      → sent_to a (visit s.sheet read (Read j)).sent ≡ report s.clock (sensor_of s.sheet j) x.sample ∷ []
  sent_of_reading on hs st = sent_at_one a (pair_sends s.sheet read (Read j)) 256 (a * 32 + j) (omega arith) others_silent ∙ own_report on hs st

-- Over a list of calls.

module _ (start : Start) (a j : ℕ) (hs : j < (sheet_of start).count) (r : Arrival) where
  abbrev n : Sensor
  n = sensor_of (sheet_of start) j

  hj : j < 32
  hj = omega (arith, (sheet_rules start).count_most)

  -- the sample that a device of the sheet makes of the reading, whatever state holds the sheet
  given_sent : (h : List Call) (lent : List ℕ) → connected_at_end start a h ≡ true → Newer start j r lent h → strategy_of start a j h ≡ Auto
      → sent_to a (step (after start h) (call_of (Reading j r) lent)).sent ≡ report (clock_of start h) n (sample_given n r) ∷ []
  given_sent h lent c z st = by_newer start j hj hs (λ (e : Effect). sent_to a e.sent ≡ report (clock_of start h) n (sample_given n r) ∷ []) r lent h z.accepted
      (λ _. sent_of_reading (after start h) a j (at_end_small start a h c) hj (stored_given (sensor_of (after start h).sheet j) r) (on start a h c)
      (subst (λ sheet. j < sheet.count) (sym (sheet_is start h)) hs) (strategy_held start a h c j hs ∙ st)
      ∙ ap₂ (λ t sheet. report t (sensor_of sheet j) (sample_given (sensor_of sheet j) r) ∷ []) (clock_is start h) (sheet_is start h))
      (λ e. absurd (true≢false (sym z.newer ∙ e)))

  one_line : (h : List Call) (lent : List ℕ) → connected_at_end start a h ≡ true → Newer start j r lent h → strategy_of start a j h ≡ Auto
      → lines_of start a (call_of (Reading j r) lent ∷ h) ≡ lines_of start a h ++ (report_given start j r h ∷ [])
  one_line h lent c z st = more_lines start a (call_of (Reading j r) lent) h (no_connect start a (call_of (Reading j r) lent) h refl)
      ∙ ap (λ l. lines_of start a h ++ l) (ap (lines_to a) (sent_packets start a h (call_of (Reading j r) lent)) ∙ (lines_packed a (step (after start h) (call_of (Reading j r) lent)).sent ∙ ap (map line) (given_sent h lent c z st)))

  given_told : (h : List Call) → line_news (sheet_of start) (report_given start j r h) ≡ Reported j (told_of n (clock_of start h) (sample_given n r))
  given_told h = ap (news_in (sheet_of start)) (line_parses (report (clock_of start h) n (sample_given n r)) well)
      ∙ news_report (sheet_of start) (opened_range start).sensors_in j hs (clock_of start h) fits (sample_given n r) (given_fits n r)
    where
      fits : clock_of start h ≤ 9999999999999
      fits = subst (λ t. t ≤ 9999999999999) (clock_is start h) (range_out (after start h) (after_in_range start h)).clock_in_lem

      well : WellFormed (report (clock_of start h) n (sample_given n r))
      well = sound_well_formed 200 _ (omega arith) (sound_report (clock_of start h) n (sample_given n r) fits ((sheet_rules start).sensor_is j hs) (given_fits n r))

-- readings under auto
pub auto_shows : AutoShows
auto_shows = record {
  own_line = λ start a j hs r lent h c z st. one_line start a j hs r h lent c z st;
  in_file = λ start a j hs r lent later h e z st.
      let call = call_of (Reading j r) lent in
      let s = start_of start a (call ∷ h) later e.same_connection in
      let c = still_on start a call h (no_connect start a call h refl) (on_then start a (call ∷ h) later e.same_connection e.at_end) in
      (s.0, s.1 ∙ (ap (λ l. l ++ s.0) (one_line start a j hs r h lent c z st) ∙ append_assoc (lines_of start a h) (report_given start j r h ∷ []) s.0));
  told = λ start j hs r h. given_told start 0 j hs r h;
}
