-- What one call sends, as it tells of subscriptions: nothing; or reports of the readings at the call's end; or a sampling reply and then such reports.
use Prim.Native.Nat.{ℕ, suc, ◌/◌, ◌%◌, ◌<◌}
use native.Mathlib.Omega.{arith}
use mathlib.Core.Path.{◌≡◌, refl}
use mathlib.Core.Bool.{true, false, ◌&&◌}
use mathlib.Core.List.{List, [], ◌∷◌, map}
use lib.Dec.{eqb, leb}
use lib.ListN.{length}
use borrow.Author.Tests.{leb-true}
use Rattle.output.specs.Text.{text}
use Rattle.output.specs.Read.{in_time}
use Rattle.message.specs.Message.{Message}
use Rattle.message.specs.Delivery.{Delivery, to}
use Rattle.machine.specs.declared.Sheet.{Sheet}
use Rattle.machine.specs.declared.State.{State}
use Rattle.machine.specs.declared.Strategy.{Strategy}
use Rattle.machine.specs.declared.Cause.{Cause}
use Rattle.machine.specs.declared.Cause.TheVariants.{Tick as Ticked, Reading as Read}
use Rattle.machine.specs.declared.Request.{Request}
use Rattle.machine.specs.Places.{any, Each}
use Rattle.machine.specs.Sheet.{sensor_of, not_on_sheet, sensors_ok}
use Rattle.machine.specs.State.{pair_at, with_clock, with_reading, present}
use Rattle.machine.specs.Range.{is_none}
use Rattle.machine.specs.Messages.{report_of}
use Rattle.machine.specs.Report.{Work, due_at, pair_sends, visit}
use Rattle.machine.specs.Requests.{listed, strategy_asked, sampled_sends, sampling, answer}
use Rattle.machine.specs.Declined.{Action, Connect, Disconnect, Tick, Reading, Log, Line, Call, tick_fits, sampling_declined, arguments_declined, action_declined}
use Rattle.machine.specs.Machine.{Effect, stored_given, perform, step}
use Rattle.machine.specs.Reader.{News, Reported, SetTo, news, told_of}
use Rattle.machine.proofs.TestLaws.{and_true, cond_cases, cond_true, fitted}
use Rattle.machine.proofs.PlacesLaws.{each_gather, each_one, each_weaker, each_map}
use Rattle.machine.proofs.StateLaws.{due_below}
use Rattle.machine.proofs.SheetLaws.{places_below}
use Rattle.machine.proofs.RangeLaws.{InRange, range_out}
use Rattle.machine.proofs.StepLaws.{by_cases, accepted, by_superseding, Asking, by_asking, by_sampling}
use Rattle.machine.proofs.SamplingLaws.{listed_known}
use Rattle.machine.proofs.QuietLaws.{Quiet, connect_sends_quiet, entries_quiet, answer_quiet, refusal_quiet}
use Rattle.machine.proofs.SampleRange.{Reportable, reportable, reportable_tick, reportable_reading, given_fits}
use Rattle.machine.proofs.NewsLaws.{report_told_lem}
use Rattle.machine.proofs.SamplingNews.{setting_told, query_told}

-- news of a reading that a state holds, at its clock
abbrev pub Held : Sheet → State → News → Type 0
Held sheet s w = (k : ℕ) × ((k < sheet.count) × (w ≡ Reported k (told_of (sensor_of sheet k) s.clock (present s k))))

-- deliveries that are reports of such
abbrev pub ReportsOf : Sheet → State → List Delivery → Type 0
ReportsOf sheet s ds = Each (λ (d : Delivery). Held sheet s (news sheet d.message)) ds

-- P holds of what is sent, if it holds of each of the three
abbrev Shaped : Sheet → (List Delivery → Type 0) → Work → Type 0
Shaped sheet P w = ((ds : List Delivery) → Quiet sheet ds → P ds)
    → ((ds : List Delivery) → ReportsOf sheet w.next ds → P ds)
    → ((c : ℕ) (m : Message) (js : List ℕ) (st : Strategy) (ds : List Delivery) → news sheet m ≡ SetTo js st → ReportsOf sheet w.next ds → (is_none st ≡ true → ds ≡ []) → P (to c m ∷ ds))
    → P w.sent

-- Reports.

report_of_lem : (s : State) → sensors_ok s.sheet ≡ true → Reportable s → (j : ℕ) → j < s.sheet.count → Held s.sheet s (news s.sheet (report_of s.sheet s j))
report_of_lem s h r j l = (j, (l, report_told_lem s h r j l))

-- of a visit
visit_reports : (s : State) → sensors_ok s.sheet ≡ true → Reportable s → (cause : Cause) → ReportsOf s.sheet s (visit s.sheet s cause).sent
unfolding pair_sends
visit_reports s h r cause = each_gather (λ (d : Delivery). Held s.sheet s (news s.sheet d.message)) (pair_sends s.sheet s cause) 256 (λ p l.
    each_one (λ (d : Delivery). Held s.sheet s (news s.sheet d.message)) (due_at s.sheet s cause (p / 32) (p % 32) (pair_at s p)) _
    (λ t. report_of_lem s h r (p % 32) (due_below s.sheet s cause (p / 32) (p % 32) (pair_at s p) t)))

-- one for each name
named_reports : (s : State) → sensors_ok s.sheet ≡ true → Reportable s → (c : ℕ) (js : List ℕ) → any (not_on_sheet s.sheet) js ≡ false
    → ReportsOf s.sheet s (map (λ j. to c (report_of s.sheet s j)) js)
named_reports s h r c js known = each_map (λ (d : Delivery). Held s.sheet s (news s.sheet d.message)) (λ j. to c (report_of s.sheet s j)) js
    (each_weaker (λ j. j < s.sheet.count) _ (λ j l. report_of_lem s h r j l) js (places_below s.sheet js known))

-- Calls.

module _ (P : List Delivery → Type 0) (s : State) (r : InRange s) where
  sampling_shape : (c : ℕ) → c < 8 → (m : Message) → m.name ≡ text "sensor-sampling" → sampling_declined s.sheet m ≡ 0 → Shaped s.sheet P (sampling s.sheet s c m)
  unfolding sampling sampled_sends
  sampling_shape c hc m e d = cond_cases (Shaped s.sheet P) (eqb (length m.args) 1) _ _
      (λ q quiet reports set. set c _ _ _ [] (query_told s r c hc m e d q) tt (λ _. refl))
      (λ q quiet reports set. set c _ _ (strategy_asked s.sheet m) _ (setting_told s.sheet r.sensors_in m e d q)
      (cond_cases (ReportsOf s.sheet s) (is_none (strategy_asked s.sheet m)) [] _ (λ n. tt)
      (λ n. named_reports s r.sensors_in (reportable s r) c (listed s.sheet m) (listed_known s.sheet m d).0))
      (λ n. cond_true (is_none (strategy_asked s.sheet m)) [] _ n))

  request_shape : (c : ℕ) (line : List ℕ) (q : Request) (m : Message) → Asking s c line q m → Shaped s.sheet P (answer s.sheet s c q m)
  unfolding arguments_declined answer
  request_shape c line q m = by_sampling (λ q. Asking s c line q m → Shaped s.sheet P (answer s.sheet s c q m))
      (λ k. sampling_shape c k.client m k.request.named k.arguments)
      (λ q e k quiet reports set. quiet _ (answer_quiet s.sheet s c q m k.request.named e)) q

  action_shape : (action : Action) → action_declined s.sheet s action ≡ 0 → Shaped s.sheet P (perform s.sheet s action)
  unfolding perform action_declined tick_fits with_reading
  action_shape (Connect c address) d quiet reports set = quiet _ (connect_sends_quiet s.sheet s c address)
  action_shape (Disconnect c) d quiet reports set = quiet [] tt
  action_shape (Tick t) d quiet reports set = let q = and_true (leb s.clock t) (in_time t) (fitted (leb s.clock t && in_time t) 8 0 (omega arith) d).0 in
      reports _ (visit_reports (with_clock s t) r.sensors_in (reportable_tick s r t (leb-true t 9999999999999 q.1)) Ticked)
  action_shape (Reading j g) d quiet reports set = let x = stored_given (sensor_of s.sheet j) g in
      by_superseding (Shaped s.sheet P) s.sheet s j g
      (λ _ quiet reports set. reports _ (visit_reports (with_reading s j x) r.sensors_in (reportable_reading s r j x (given_fits (sensor_of s.sheet j) g)) (Read j)))
      (λ _ quiet reports set. quiet [] tt) quiet reports set
  action_shape (Log level logger said) d quiet reports set = quiet _ (entries_quiet s.sheet s level logger said)
  action_shape (Line c line) d quiet reports set = by_asking (Shaped s.sheet P) s c line d (λ quiet reports set. quiet [] tt) (request_shape c line) quiet reports set

-- every call
pub by_shape : (P : List Delivery → Type 0) (s : State) (call : Call)
    → ((ds : List Delivery) → Quiet s.sheet ds → P ds)
    → ((ds : List Delivery) → ReportsOf s.sheet (step s call).next ds → P ds)
    → ((c : ℕ) (m : Message) (js : List ℕ) (st : Strategy) (ds : List Delivery) → news s.sheet m ≡ SetTo js st → ReportsOf s.sheet (step s call).next ds → (is_none st ≡ true → ds ≡ []) → P (to c m ∷ ds))
    → P (step s call).sent
by_shape P s call = by_cases (λ (e : Effect). Shaped s.sheet P (record { sent = e.sent; next = e.next })) s call
    (λ e. let a = accepted s call e in action_shape P s (range_out s a.in_range_lem) call.action a.fits)
    (λ n e quiet reports set. quiet _ (refusal_quiet s.sheet s (suc n) call.action))
