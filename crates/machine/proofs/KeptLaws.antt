-- Call by call: what a connected client hears of a call that is carried out is what the call changes in the unit's record for it.
use Prim.Native.Nat.{ℕ, ◌≤◌, ◌<◌}
use native.Mathlib.Omega.{arith}
use mathlib.Core.Path.{◌≡◌, refl, ap, sym, ◌∙◌, ap₂}
use mathlib.Core.Bool.{Bool, true, false, cond, ◌&&◌, ◌||◌, true≢false}
use mathlib.Core.List.{List, [], ◌∷◌, map}
use lib.Dec.{eqb, leb}
use lib.ListN.{length, get_or}
use borrow.Author.Tests.{eqb-true, leb-true, ltb-false}
use Rattle.output.specs.Text.{text, same}
use Rattle.output.specs.Read.{in_time}
use Rattle.message.specs.Message.{Message}
use Rattle.message.specs.Delivery.{to}
use Rattle.machine.specs.declared.Sheet.{Sheet}
use Rattle.machine.specs.declared.Strategy.{Strategy}
use Rattle.machine.specs.declared.Subscription.{Subscription}
use Rattle.machine.specs.declared.State.{State}
use Rattle.machine.specs.declared.Request.{Request}
use Rattle.machine.specs.declared.Cause.{Cause}
use Rattle.machine.specs.declared.Request.TheVariants.{SensorSampling}
use Rattle.machine.specs.declared.Cause.TheVariants.{Tick as Ticked, Reading as Read}
use Rattle.machine.specs.Places.{any, has, Each}
use Rattle.machine.specs.Sheet.{sensor_of}
use Rattle.machine.specs.State.{present, connected, pair_of, with_pairs, with_clock, with_reading, client_at, blank_client}
use Rattle.machine.specs.Range.{is_none}
use Rattle.machine.specs.Messages.{report_of, sampling_reply}
use Rattle.machine.specs.Report.{Work, visit, due_at, reported}
use Rattle.machine.specs.Requests.{argument, listed, first_of, strategy_asked, sampled, sampled_pairs, sampled_sends, sampling, answer, sends_only}
use Rattle.machine.specs.Declined.{Arrival, Action, Connect, Disconnect, Tick, Reading, Log, Line, tick_fits, action_declined, arguments_declined, sampling_declined}
use Rattle.machine.specs.Machine.{perform, reading_stored, stored_given}
use Rattle.machine.specs.Reader.{View, news, SetTo, view_after, view_of, standing}
use Rattle.machine.specs.TwoDevices.{is_connect}
use Rattle.machine.proofs.TestLaws.{cond_cases, and_true, fitted, eqb_sym}
use Rattle.machine.proofs.StateLaws.{pair_visited, pair_sampled, none_connected, other_client, still_connected, other_pair}
use Rattle.machine.proofs.SheetLaws.{places_below}
use Rattle.machine.proofs.RangeLaws.{InRange}
use Rattle.machine.proofs.StepLaws.{by_superseding, name_for, Asking, by_asking, by_sampling}
use Rattle.machine.proofs.HeardLaws.{heard, heard_none, heard_more, quiet_heard, Readable, told_now, visit_heard, listed_heard}
use Rattle.machine.proofs.SamplingLaws.{listed_some, listed_known}
use Rattle.machine.proofs.QuietLaws.{connect_sends_quiet, entries_quiet, answer_quiet}
use Rattle.machine.proofs.SampleRange.{reportable, reportable_tick, reportable_reading, given_fits}
use Rattle.machine.proofs.NewsLaws.{report_told_lem}
use Rattle.machine.proofs.SamplingNews.{query_one, query_told, setting_told}
use Rattle.machine.proofs.NextLaws.{answer_next, sampling_clients}

-- client a was connected before the call, and heard what changed for sensor j
pub record Kept (sheet : Sheet) (s : State) (e : Work) (a j : ℕ) : Type 0 where
  pub before : connected s a ≡ true
  pub heard_is : standing sheet e.next a j ≡ heard sheet a j e.sent (standing sheet s a j)

-- Visits.

module _ (sheet : Sheet) (s : State) (r : Readable sheet s) (a j : ℕ) (ha : a < 8) (hj : j < 32) where
  pub visit_kept : (cause : Cause) → connected s a ≡ true → Kept sheet s (visit sheet s cause) a j
  visit_kept cause h = record {
    before = h;
    heard_is = ap (view_of (sensor_of sheet j)) (pair_visited s a j ha hj sheet cause) ∙ (go (due_at sheet s cause a j (pair_of s a j)) ∙ sym (visit_heard sheet s r a j cause (standing sheet s a j) ha hj));
  }
    where
      go : (b : Bool) → view_of (sensor_of sheet j) (cond b (reported s.clock (present s j) (pair_of s a j)) (pair_of s a j))
          ≡ cond b (told_now sheet s r a j (standing sheet s a j)) (standing sheet s a j)
      go true = refl
      go false = refl

-- Sampling.

one_listed : (js : List ℕ) → 1 ≤ length js → length js ≤ 1 → js ≡ get_or js 0 0 ∷ []
one_listed [] h l = absurd (omega arith)
one_listed (k ∷ []) h l = refl
one_listed (k ∷ i ∷ ks) h l = absurd (omega arith)

module _ (sheet : Sheet) (a j : ℕ) where
  -- a query tells the strategy that the client's pair has
  query_heard : (c k : ℕ) (m : Message) (v : View) (st : Strategy) → news sheet m ≡ SetTo (k ∷ []) st → (eqb c a ≡ true → eqb j k ≡ true → v.strategy ≡ st)
      → v ≡ heard sheet a j (to c m ∷ []) v
  unfolding view_after has any
  query_heard c k m v st tells same = go (eqb c a) (eqb j k) refl refl ∙ (ap (λ w. cond (eqb c a) (view_after j w v) v) (sym tells) ∙ sym (heard_more sheet a j c m [] v ∙ heard_none sheet a j _))
    where
      go : (b d : Bool) → eqb c a ≡ b → eqb j k ≡ d → v ≡ cond b (cond (d || false) (record { strategy = st; last = v.last }) v) v
      go true true p q = ap (λ (w : Strategy). record { strategy = w; last = v.last }) (same p q)
      go true false p q = refl
      go false d p q = refl

  -- a strategy that is set is told, and then the reports
  set-heard : (s : State) (r : Readable sheet s) (c : ℕ) (js : List ℕ) (m : Message) (st : Strategy) (p : Subscription) → news sheet m ≡ SetTo js st → Each (λ k. k < sheet.count) js
      → view_of (sensor_of sheet j) (cond (eqb a c && has j js) (sampled s.clock (present s j) st p) p)
      ≡ heard sheet a j (to c m ∷ cond (is_none st) [] (map (λ k. to c (report_of sheet s k)) js)) (view_of (sensor_of sheet j) p)
  unfolding view_after sampled
  set-heard s r c js m st p tells on = rw (eqb_sym a c) (go (is_none st)
      ∙ (ap (λ w. heard sheet a j (cond (is_none st) [] (map (λ k. to c (report_of sheet s k)) js)) (cond (eqb c a) (view_after j w v) v)) (sym tells)
      ∙ sym (heard_more sheet a j c m (cond (is_none st) [] (map (λ k. to c (report_of sheet s k)) js)) v)))
    where
      v : View
      v = view_of (sensor_of sheet j) p

      set_to : View
      set_to = record { strategy = st; last = v.last }

      kept : Subscription
      kept = record { strategy = st; reported = p.reported; sample = p.sample; time = p.time }

      anew : Subscription
      anew = record { strategy = st; reported = true; sample = present s j; time = s.clock }

      keeps : (b h : Bool) → view_of (sensor_of sheet j) (cond (b && h) kept p) ≡ cond b (cond h set_to v) v
      keeps true true = refl
      keeps true false = refl
      keeps false h = refl

      reports : (b h : Bool) → view_of (sensor_of sheet j) (cond (b && h) anew p) ≡ cond (b && h) (told_now sheet s r a j (cond b (cond h set_to v) v)) (cond b (cond h set_to v) v)
      reports true true = refl
      reports true false = refl
      reports false h = refl

      go : (e : Bool) → view_of (sensor_of sheet j) (cond (eqb c a && has j js) (cond e kept anew) p)
          ≡ heard sheet a j (cond e [] (map (λ k. to c (report_of sheet s k)) js)) (cond (eqb c a) (cond (has j js) set_to v) v)
      go true = keeps (eqb c a) (has j js) ∙ sym (heard_none sheet a j _)
      go false = reports (eqb c a) (has j js) ∙ sym (listed_heard sheet s r a j c js _ on)

-- a query names one sensor
query_alone : (sheet : Sheet) (m : Message) → sampling_declined sheet m ≡ 0 → eqb (length m.args) 1 ≡ true → listed sheet m ≡ get_or (listed sheet m) 0 0 ∷ []
query_alone sheet m d e = one_listed (listed sheet m) (listed_some sheet m) (ltb-false 1 (length (listed sheet m)) (query_one sheet m d e))

module _ (s : State) (r : InRange s) (a j : ℕ) (ha : a < 8) (hj : j < 32) where
  sampling_kept : (c : ℕ) (m : Message) → c < 8 → m.name ≡ text "sensor-sampling" → sampling_declined s.sheet m ≡ 0 → connected s a ≡ true
      → Kept s.sheet s (sampling s.sheet s c m) a j
  unfolding sampling sampled_sends
  sampling_kept c m hc named d on = cond_cases (λ (w : Work). Kept s.sheet s w a j) (eqb (length m.args) 1) _ _ query set
    where
      js : List ℕ
      js = listed s.sheet m

      st : Strategy
      st = strategy_asked s.sheet m

      held : Strategy
      held = (pair_of s c (get_or js 0 0)).strategy

      query : eqb (length m.args) 1 ≡ true → Kept s.sheet s (sends_only s (to c (sampling_reply m (argument m 0) (first_of s.sheet js) held) ∷ [])) a j
      query e = record {
        before = on;
        heard_is = query_heard s.sheet a j c (get_or js 0 0) _ (standing s.sheet s a j) held
            (query_told s r c hc m named d e ∙ ap (λ l. SetTo l held) (query_alone s.sheet m d e))
            (λ p q. ap₂ (λ b i. (pair_of s b i).strategy) (sym (eqb-true c a p)) (eqb-true j (get_or js 0 0) q));
      }

      set : eqb (length m.args) 1 ≡ false → Kept s.sheet s (record { sent = sampled_sends s.sheet s c m js st; next = with_pairs s (sampled_pairs s c js st) }) a j
      set e = record {
        before = on;
        heard_is = ap (view_of (sensor_of s.sheet j)) (pair_sampled s a j ha hj c js st)
            ∙ set-heard s.sheet a j s (report_told_lem s r.sensors_in (reportable s r)) c js _ st (pair_of s a j) (setting_told s.sheet r.sensors_in m named d e)
            (places_below s.sheet js (listed_known s.sheet m d).0);
      }

  -- a request other than sampling leaves every pair or forgets every client
  other_left : (c : ℕ) (m : Message) (r : Request) → same (name_for r) (name_for SensorSampling) ≡ false → connected (answer s.sheet s c r m).next a ≡ true
      → (connected s a ≡ true) × (standing s.sheet (answer s.sheet s c r m).next a j ≡ standing s.sheet s a j)
  other_left c m = answer_next (λ r n. same (name_for r) (name_for SensorSampling) ≡ false → connected n a ≡ true → (connected s a ≡ true) × (standing s.sheet n a j ≡ standing s.sheet s a j)) s c m
      (λ r q e on. (on, refl)) (λ l e on. (on, refl)) (λ b l e on. absurd (true≢false (sym on ∙ none_connected a))) (λ b l e on. absurd (true≢false (sym on ∙ none_connected a)))
      (λ q e on. (on, refl)) (λ q e. absurd (true≢false e))

  -- and tells nothing
  answer_kept : (c : ℕ) (line : List ℕ) (r : Request) (m : Message) → Asking s c line r m → connected (answer s.sheet s c r m).next a ≡ true → Kept s.sheet s (answer s.sheet s c r m) a j
  unfolding answer arguments_declined
  answer_kept c line r m = by_sampling (λ r. Asking s c line r m → connected (answer s.sheet s c r m).next a ≡ true → Kept s.sheet s (answer s.sheet s c r m) a j)
      (λ k on. sampling_kept c m k.client k.request.named k.arguments (sym (sampling_clients s c a m) ∙ on))
      (λ r q k on. let l = other_left c m r q on in
      record { before = l.0; heard_is = l.1 ∙ sym (quiet_heard s.sheet a j _ _ (answer_quiet s.sheet s c r m k.request.named q)) }) r

  reading_kept : (k : ℕ) (g : Arrival) → connected s a ≡ true → Kept s.sheet s (reading_stored s.sheet s k g) a j
  unfolding with_reading
  reading_kept k g on =
      let q = visit_kept s.sheet (with_reading s k (stored_given (sensor_of s.sheet k) g))
      (report_told_lem (with_reading s k (stored_given (sensor_of s.sheet k) g)) r.sensors_in (reportable_reading s r k (stored_given (sensor_of s.sheet k) g) (given_fits (sensor_of s.sheet k) g))) a j ha hj (Read k) on in
      record { before = on; heard_is = q.heard_is }

  tick_kept : (t : ℕ) → tick_fits s t ≡ true → connected s a ≡ true → Kept s.sheet s (visit s.sheet (with_clock s t) Ticked) a j
  unfolding tick_fits
  tick_kept t e on =
      let q = visit_kept s.sheet (with_clock s t) (report_told_lem (with_clock s t) r.sensors_in (reportable_tick s r t (leb-true t 9999999999999 (and_true (leb s.clock t) (in_time t) e).1))) a j ha hj Ticked on in
      record { before = on; heard_is = q.heard_is }

  pub perform_kept : (action : Action) → action_declined s.sheet s action ≡ 0 → is_connect a action ≡ false → connected (perform s.sheet s action).next a ≡ true
      → Kept s.sheet s (perform s.sheet s action) a j
  unfolding perform action_declined with_reading
  perform_kept (Connect c address) d n on = record {
    before = sym (other_client s a ha c (client_at address) n) ∙ on;
    heard_is = ap (view_of (sensor_of s.sheet j)) (other_pair s a j ha hj c (client_at address) n) ∙ sym (quiet_heard s.sheet a j _ _ (connect_sends_quiet s.sheet s c address));
  }
  perform_kept (Disconnect c) d n on = let e = still_connected s a ha c on in
      record { before = sym (other_client s a ha c blank_client e) ∙ on; heard_is = ap (view_of (sensor_of s.sheet j)) (other_pair s a j ha hj c blank_client e) ∙ sym (heard_none s.sheet a j _) }
  perform_kept (Tick t) d n on = tick_kept t (fitted (tick_fits s t) 8 0 (omega arith) d).0 on
  perform_kept (Reading k g) d n on = by_superseding (λ (w : Work). connected w.next a ≡ true → Kept s.sheet s w a j) s.sheet s k g
      (λ _ on. reading_kept k g on) (λ _ on. record { before = on; heard_is = sym (heard_none s.sheet a j _) }) on
  perform_kept (Log level logger said) d n on = record { before = on; heard_is = sym (quiet_heard s.sheet a j _ _ (entries_quiet s.sheet s level logger said)) }
  perform_kept (Line c line) d n on = by_asking (λ (w : Work). connected w.next a ≡ true → Kept s.sheet s w a j) s c line d
      (λ on. record { before = on; heard_is = sym (heard_none s.sheet a j _) }) (answer_kept c line) on
