-- What document 01 reads off a list of calls is what the state holds that the list ends with.
use Prim.Native.Nat.{ℕ, suc, ◌<◌}
use native.Mathlib.Omega.{arith}
use mathlib.Core.Path.{◌≡◌, refl, ap, sym, ◌∙◌, subst}
use mathlib.Core.Bool.{Bool, true, false, cond, ◌&&◌, ◌||◌, true≢false}
use mathlib.Core.List.{List, [], ◌∷◌, ◌++◌, map}
use Rattle.std.specs.Prelude.{None}
use lib.Dec.{eqb, ltb}
use borrow.Author.Tests.{eqb-true, lt-ltb}
use Rattle.message.specs.Message.{Message}
use Rattle.message.specs.Delivery.{Delivery, packet}
use Rattle.machine.specs.declared.State.{State}
use Rattle.machine.specs.declared.Stored.{Stored}
use Rattle.machine.specs.Places.{is_zero, from_first}
use Rattle.machine.specs.Sheet.{sensor_of}
use Rattle.machine.specs.State.{stored_of, is_unknown, supersedes, no_stored, connected, pair_of, no_subscription, fresh_readings}
use Rattle.machine.specs.Opening.{Start, opened}
use Rattle.machine.specs.Report.{Work}
use Rattle.machine.specs.Requests.{sends_only}
use Rattle.machine.specs.Declined.{Arrival, Action, Reading, Call, call_of, connect_refused, action_declined, declined}
use Rattle.machine.specs.Machine.{Effect, done, reading_stored, perform, step}
use Rattle.machine.specs.Reader.{Other, news, View, view_by, no_view, view_of, standing}
use Rattle.machine.specs.TwoDevices.{after, sheet_of, returned_zero, packets_of, connects, is_connect, is_disconnect, ends_all, connected_at_end, greets, sent_to, messages_of, superseding, reading_by, last_reading, clock_of, clock_by}
use Rattle.machine.proofs.TestLaws.{cond_true, eqb_sym}
use Rattle.machine.proofs.PlacesLaws.{each_from, get_or-tabulate}
use Rattle.machine.proofs.StateLaws.{none_connected, pair_of_client}
use Rattle.machine.proofs.StepLaws.{by_cases, accepted, client_fits, by_superseding, connect_only}
use Rattle.machine.proofs.RangeLaws.{range_out}
use Rattle.machine.proofs.QuietLaws.{connect_sends_quiet, refusal_quiet}
use Rattle.machine.proofs.HeardLaws.{heard, view_append, quiet_viewed, quiet_heard, each_to}
use Rattle.machine.proofs.KeptLaws.{perform_kept}
use Rattle.machine.proofs.AnsweredLaws.{packets_are}
use Rattle.machine.proofs.NextLaws.{perform_sheet, perform_clock, perform_connected, ends_connections}
use Rattle.machine.proofs.SupersedingLaws.{StoredBy, supersedes_is, perform_stored}
use Rattle.machine.proofs.GrantedLaws.{ends_is}
use Rattle.machine.proofs.Sent.{sent_short}
use Rattle.machine.proofs.OpenedRange.{opened_either}

-- no client is connected at first
pub opened_alone : (start : Start) (a : ℕ) → connected (opened start).state a ≡ false
opened_alone start a = opened_either (λ s. connected s a ≡ false) start (λ sheet ok k. none_connected a) (none_connected a)

module _ (start : Start) where
  -- no call touches the sheet
  pub sheet_is : (h : List Call) → (after start h).sheet ≡ sheet_of start
  unfolding after
  sheet_is [] = refl
  sheet_is (call ∷ h) = by_cases (λ (e : Effect). e.next.sheet ≡ sheet_of start) (after start h) call (λ _. perform_sheet (after start h) call.action ∙ sheet_is h) (λ n _. sheet_is h)

  pub clock_is : (h : List Call) → (after start h).clock ≡ clock_of start h
  unfolding after clock_of
  clock_is [] = opened_either (λ s. s.clock ≡ 0) start (λ sheet ok k. refl) refl
  clock_is (call ∷ h) = by_cases (λ (e : Effect). e.next.clock ≡ cond (is_zero e.number) (clock_by call.action (clock_of start h)) (clock_of start h)) (after start h) call
      (λ _. perform_clock (after start h) call.action ∙ ap (clock_by call.action) (clock_is h)) (λ n _. clock_is h)

module _ (start : Start) (j : ℕ) (hj : j < 32) (hs : j < (sheet_of start).count) where
  opened_stored : StoredBy (sensor_of (sheet_of start) j) (stored_of (opened start).state j) None
  unfolding fresh_readings
  opened_stored = opened_either (λ s. j < s.sheet.count → StoredBy (sensor_of s.sheet j) (stored_of s j) None) start
      (λ sheet ok k l. let e = get_or-tabulate _ 32 j no_stored hj ∙ cond_true (ltb j sheet.count) _ no_stored (lt-ltb j sheet.count l) in
      record { sample_is = ap (λ (x : Stored). x.sample) e; time_is = ap (λ (x : Stored). x.time) e; fresh_is = ap (λ (x : Stored). is_unknown x.sample) e })
      (λ l. absurd (omega arith)) hs

  -- what is stored of a sensor is the last reading that superseded the one before it
  pub stored_by : (h : List Call) → StoredBy (sensor_of (sheet_of start) j) (stored_of (after start h) j) (last_reading start j h)
  unfolding after last_reading
  stored_by [] = opened_stored
  stored_by (call ∷ h) = by_cases (λ (e : Effect). StoredBy (sensor_of (sheet_of start) j) (stored_of e.next j) (cond (is_zero e.number) (reading_by j call.action (last_reading start j h)) (last_reading start j h))) (after start h) call
      (λ z. subst (λ sheet. StoredBy (sensor_of sheet j) (stored_of (perform (after start h).sheet (after start h) call.action).next j) (reading_by j call.action (last_reading start j h))) (sheet_is start h)
      (perform_stored (after start h) j hj call.action (accepted (after start h) call z).fits (last_reading start j h)
      (subst (λ sheet. StoredBy (sensor_of sheet j) (stored_of (after start h) j) (last_reading start j h)) (sym (sheet_is start h)) (stored_by h))))
      (λ n _. stored_by h)

  -- a reading that returned 0 supersedes what the list says is stored, or is older
  pub by_newer : (P : Effect → Type 0) (r : Arrival) (lent : List ℕ) (h : List Call) → returned_zero start h (call_of (Reading j r) lent) ≡ true
      → (superseding r.time (last_reading start j h) ≡ true → P (done (reading_stored (after start h).sheet (after start h) j r)))
      → (superseding r.time (last_reading start j h) ≡ false → P (done (sends_only (after start h) []))) → P (step (after start h) (call_of (Reading j r) lent))
  by_newer P r lent h z newer older = by_cases (λ (e : Effect). is_zero e.number ≡ true → P e) (after start h) (call_of (Reading j r) lent)
      (λ _ _. by_superseding (λ (w : Work). P (done w)) (after start h).sheet (after start h) j r (λ e. newer (sym same ∙ e)) (λ e. older (sym same ∙ e)))
      (λ n _ e. absurd (true≢false (sym e))) z
    where
      same : supersedes r.time (stored_of (after start h) j) ≡ superseding r.time (last_reading start j h)
      same = supersedes_is (sensor_of (sheet_of start) j) (stored_of (after start h) j) (last_reading start j h) r.time (stored_by h)

-- Connection.

module _ (start : Start) (a : ℕ) where
  pub sent_packets : (h : List Call) (call : Call) → packets_of start h call ≡ map packet (step (after start h) call).sent
  sent_packets h call = packets_are start h call (sent_short (after start h) call)

  pub connected_is : a < 8 → (h : List Call) → connected (after start h) a ≡ connected_at_end start a h
  unfolding after connected_at_end
  connected_is ha [] = opened_alone start a
  connected_is ha (call ∷ h) = by_cases (λ (e : Effect). connected e.next a
      ≡ cond (is_zero e.number && is_connect a call.action) true (cond ((is_zero e.number && is_disconnect a call.action) || (is_zero e.number && ends_connections call.action)) false (connected_at_end start a h)))
      (after start h) call
      (λ _. perform_connected (after start h) a ha call.action ∙ ap (λ b. cond (is_connect a call.action) true (cond (is_disconnect a call.action || ends_connections call.action) false b)) (connected_is ha h))
      (λ n _. connected_is ha h)
      ∙ ap (λ b. cond (connects start a h call) true (cond ((is_zero (step (after start h) call).number && is_disconnect a call.action) || b) false (connected_at_end start a h)))
      (sym (ap (ends_all call.action) (sent_packets h call) ∙ ends_is (after start h) call.action call.lent))

  -- only clients below 8 connect
  connect_fits : (s : State) (action : Action) → is_connect a action ≡ true → action_declined s.sheet s action ≡ 0 → a < 8
  unfolding action_declined
  connect_fits s = connect_only (λ action. action_declined s.sheet s action ≡ 0 → a < 8) a (λ c address e d. rw (← eqb-true c a e) (client_fits s.sheet.profile (connect_refused s.sheet.profile (connected s c)) c _ d).0)

  connect_small : (s : State) (call : Call) → (is_zero (step s call).number && is_connect a call.action) ≡ true → a < 8
  connect_small s call = by_cases (λ (e : Effect). (is_zero e.number && is_connect a call.action) ≡ true → a < 8) s call
      (λ z e. connect_fits s call.action e (accepted s call z).fits) (λ n _ e. absurd (true≢false (sym e)))

  pub at_end_small : (h : List Call) → connected_at_end start a h ≡ true → a < 8
  unfolding connected_at_end
  at_end_small [] e = absurd (true≢false (sym e))
  at_end_small (call ∷ h) e = go (connects start a h call) ((returned_zero start h call && is_disconnect a call.action) || ends_all call.action (packets_of start h call)) refl e (at_end_small h)
    where
      go : (b d : Bool) → connects start a h call ≡ b → cond b true (cond d false (connected_at_end start a h)) ≡ true → (connected_at_end start a h ≡ true → a < 8) → a < 8
      go true d q t ih = connect_small (after start h) call q
      go false true q t ih = absurd (true≢false (sym t))
      go false false q t ih = ih t

-- The standing of a sensor, by the messages.

module _ (a j : ℕ) (ha : a < 8) (hj : j < 32) where
  -- a client that has just connected
  pub connect_pair : (s : State) (action : Action) → is_connect a action ≡ true → pair_of (perform s.sheet s action).next a j ≡ no_subscription
  unfolding perform
  connect_pair s = connect_only (λ action. pair_of (perform s.sheet s action).next a j ≡ no_subscription) a
      (λ c address e. pair_of_client s a j ha hj c _ ∙ cond_true (eqb a c) no_subscription (pair_of s a j) (eqb_sym a c ∙ e))

  -- what it hears from the greeting on
  connect_heard : (s : State) (v : View) (action : Action) → is_connect a action ≡ true → view_by s.sheet j (from_first greets (sent_to a (perform s.sheet s action).sent)) v ≡ v
  unfolding perform
  connect_heard s v = connect_only (λ action. view_by s.sheet j (from_first greets (sent_to a (perform s.sheet s action).sent)) v ≡ v) a
      (λ c address e. quiet_viewed s.sheet j _ v (each_from (λ m. news s.sheet m ≡ Other) greets _ (each_to _ a _ (connect_sends_quiet s.sheet s c address))))

  -- one call
  heard_step : (s : State) (call : Call) (ms : List Message) → (connected s a ≡ true → standing s.sheet s a j ≡ view_by s.sheet j ms no_view) → connected (step s call).next a ≡ true
      → standing s.sheet (step s call).next a j ≡ view_by s.sheet j (cond (is_zero (step s call).number && is_connect a call.action) (from_first greets (sent_to a (step s call).sent)) (ms ++ sent_to a (step s call).sent)) no_view
  unfolding heard
  heard_step s call ms ih = by_cases (λ (e : Effect). connected e.next a ≡ true
      → standing s.sheet e.next a j ≡ view_by s.sheet j (cond (is_zero e.number && is_connect a call.action) (from_first greets (sent_to a e.sent)) (ms ++ sent_to a e.sent)) no_view) s call
      (λ z on. go z on (is_connect a call.action) refl)
      (λ n _ on. ih on ∙ (sym (quiet_heard s.sheet a j _ _ (refusal_quiet s.sheet s (suc n) call.action)) ∙ sym (view_append s.sheet j ms (sent_to a _) no_view)))
    where
      w : List Delivery
      w = (perform s.sheet s call.action).sent

      go : declined s.sheet s call ≡ 0 → connected (perform s.sheet s call.action).next a ≡ true → (b : Bool) → is_connect a call.action ≡ b
          → standing s.sheet (perform s.sheet s call.action).next a j ≡ view_by s.sheet j (cond b (from_first greets (sent_to a w)) (ms ++ sent_to a w)) no_view
      go z on true e = ap (view_of (sensor_of s.sheet j)) (connect_pair s call.action e) ∙ sym (connect_heard s no_view call.action e)
      go z on false e = let k = perform_kept s (range_out s (accepted s call z).in_range_lem) a j ha hj call.action (accepted s call z).fits e on in
          k.heard_is ∙ (ap (heard s.sheet a j w) (ih k.before) ∙ sym (view_append s.sheet j ms (sent_to a w) no_view))

  pub heard_is : (start : Start) (h : List Call) → connected (after start h) a ≡ true → standing (sheet_of start) (after start h) a j ≡ view_by (sheet_of start) j (messages_of start a h) no_view
  unfolding after messages_of
  heard_is start [] on = absurd (true≢false (sym on ∙ opened_alone start a))
  heard_is start (call ∷ h) on = subst (λ sheet. standing sheet (step (after start h) call).next a j ≡ view_by sheet j (messages_of start a (call ∷ h)) no_view) (sheet_is start h)
      (heard_step (after start h) call (messages_of start a h)
      (λ q. subst (λ sheet. standing sheet (after start h) a j ≡ view_by sheet j (messages_of start a h) no_view) (sym (sheet_is start h)) (heard_is start h q)) on)
