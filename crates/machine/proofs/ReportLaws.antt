-- Every report of a call tells the reading that its sensor has at the call's end.
use Prim.Native.Nat.{ℕ, ◌<◌}
use native.Mathlib.Omega.{arith}
use mathlib.Core.Path.{◌≡◌, ap, ap₂, sym, ◌∙◌, subst}
use mathlib.Core.Bool.{true, true≢false}
use mathlib.Core.List.{List, ◌∷◌}
use Rattle.message.specs.Delivery.{Delivery}
use Rattle.line.specs.Line.{WellFormed}
use Rattle.machine.specs.declared.Sheet.{Sheet}
use Rattle.machine.specs.declared.State.{State}
use Rattle.machine.specs.Places.{Each}
use Rattle.machine.specs.Sheet.{sensor_of}
use Rattle.machine.specs.State.{present}
use Rattle.machine.specs.Opening.{Start}
use Rattle.machine.specs.Declined.{Call}
use Rattle.machine.specs.Machine.{step}
use Rattle.machine.specs.Reader.{Told, News, Other, Impossible, Reported, SetTo, news, told, told_of}
use Rattle.machine.specs.TwoDevices.{after, sheet_of, packets_of, lines_to, sent_to, clock_of}
use Rattle.machine.specs.Tells.{news_in, line_news, reading_at, ReportsTrue}
use Rattle.machine.specs.Cut.{is_report}
use Rattle.machine.proofs.PlacesLaws.{each_weaker}
use Rattle.machine.proofs.QuietLaws.{Silent}
use Rattle.machine.proofs.ShapeLaws.{Held, ReportsOf, by_shape}
use Rattle.machine.proofs.Sent.{sent_well_formed}
use Rattle.machine.proofs.ListLaws.{sheet_is, clock_is, stored_by, sent_packets}
use Rattle.machine.proofs.HeardLaws.{each_to}
use Rattle.machine.proofs.ArchiveLaws.{lines_packed}
use Rattle.machine.proofs.TellsLaws.{lines_read, sheet_rules}

-- news that, if they are a report, are one of the state's
abbrev True : Sheet → State → News → Type 0
True sheet s w = is_report w ≡ true → Held sheet s w

-- of all that a call sends
sent_true : (s : State) (call : Call) → Each (λ (d : Delivery). True s.sheet (step s call).next (news s.sheet d.message)) (step s call).sent
sent_true s call = by_shape (Each P) s call
    (each_weaker (Silent s.sheet) P (λ d e q. absurd (true≢false (sym q ∙ ap is_report e))))
    reports
    (λ c m js st ds e h _. (λ q. absurd (true≢false (sym q ∙ ap is_report e)), reports ds h))
  where
    P : Delivery → Type 0
    P d = True s.sheet (step s call).next (news s.sheet d.message)

    reports : (ds : List Delivery) → ReportsOf s.sheet (step s call).next ds → Each P ds
    reports = each_weaker (λ (d : Delivery). Held s.sheet (step s call).next (news s.sheet d.message)) P (λ d h _. h)

-- which report it is
abbrev sensor_told : News → ℕ
sensor_told Other = 0
sensor_told Impossible = 0
sensor_told (Reported k r) = k
sensor_told (SetTo js st) = 0

abbrev report_told : News → Told
report_told Other = told 0 0 0
report_told Impossible = told 0 0 0
report_told (Reported k r) = r
report_told (SetTo js st) = told 0 0 0

held_report : (sheet : Sheet) (s : State) (w : News) (k : ℕ) (r : Told) → w ≡ Reported k r → Held sheet s w → (k < sheet.count) × (r ≡ told_of (sensor_of sheet k) s.clock (present s k))
held_report sheet s w k r e h =
    (subst (λ i. i < sheet.count) same h.1.0, sym (ap report_told e) ∙ (ap report_told h.1.1 ∙ ap (λ i. told_of (sensor_of sheet i) s.clock (present s i)) same))
  where
    same : h.0 ≡ k
    same = sym (ap sensor_told h.1.1) ∙ ap sensor_told e

-- over a list of calls
module _ (start : Start) where
  held_then : (g : List Call) (k : ℕ) (r : Told) → k < (sheet_of start).count → r ≡ told_of (sensor_of (sheet_of start) k) (after start g).clock (present (after start g) k)
      → r ≡ told_of (sensor_of (sheet_of start) k) (clock_of start g) (reading_at start k g)
  held_then g k r hs e = e ∙ ap₂ (told_of (sensor_of (sheet_of start) k)) (clock_is start g) (stored_by start k (omega (arith, (sheet_rules start).count_most)) hs g).sample_is

  lines_true : (a : ℕ) (h : List Call) (call : Call) → Each (λ l. True (sheet_of start) (after start (call ∷ h)) (line_news (sheet_of start) l)) (lines_to a (packets_of start h call))
  unfolding after
  lines_true a h call = let ds = (step (after start h) call).sent in
      subst (λ sheet. Each (λ l. True sheet (step (after start h) call).next (line_news sheet l)) (lines_to a (packets_of start h call))) (sheet_is start h)
      (subst (Each (λ l. True (after start h).sheet (step (after start h) call).next (line_news (after start h).sheet l))) (sym (ap (lines_to a) (sent_packets start a h call) ∙ lines_packed a ds))
      (lines_read (λ p. True (after start h).sheet (step (after start h) call).next (news_in (after start h).sheet p)) (sent_to a ds) (each_to WellFormed a ds (sent_well_formed (after start h) call))
      (each_to (λ m. True (after start h).sheet (step (after start h) call).next (news (after start h).sheet m)) a ds (sent_true (after start h) call))))

-- reports
pub reports_true : ReportsTrue
reports_true start a h call = each_weaker (λ l. True (sheet_of start) (after start (call ∷ h)) (line_news (sheet_of start) l)) _
    (λ l t k r e. let q = held_report (sheet_of start) (after start (call ∷ h)) (line_news (sheet_of start) l) k r e (t (ap is_report e)) in held_then start (call ∷ h) k r q.0 q.1)
    (lines_to a (packets_of start h call)) (lines_true start a h call)
