-- The strategy that a list gives a sensor is the one that the state holds.
use Prim.Native.Nat.{ℕ, ◌+◌, ◌*◌, ◌<◌}
use native.Mathlib.Omega.{arith}
use mathlib.Core.Path.{◌≡◌, refl, ap, ap₂, sym, ◌∙◌}
use mathlib.Core.Bool.{Bool, true, false, cond, not, ◌&&◌, true≢false}
use mathlib.Core.List.{List, [], ◌∷◌, map}
use lib.Dec.{eqb, leb}
use lib.ListN.{length, get_or}
use borrow.Author.Tests.{eqb-true, eqb-false, leb-true, le-leb, lt-leb, not-false}
use Rattle.output.specs.Text.{same}
use Rattle.message.specs.Message.{Message}
use Rattle.message.specs.Delivery.{packet}
use Rattle.line.specs.Line.{parse}
use Rattle.machine.specs.declared.Strategy.{Strategy}
use Rattle.machine.specs.declared.Strategy.TheVariants.{None}
use Rattle.machine.specs.declared.Subscription.{Subscription}
use Rattle.machine.specs.declared.State.{State}
use Rattle.machine.specs.declared.Request.{Request}
use Rattle.machine.specs.declared.Request.TheVariants.{SensorSampling}
use Rattle.machine.specs.declared.Cause.{Cause}
use Rattle.machine.specs.Places.{is_zero, has}
use Rattle.machine.specs.Sheet.{sensor_of}
use Rattle.machine.specs.State.{connected, pair_of, present, no_subscription, blank_client, client_at, with_clock, with_reading}
use Rattle.machine.specs.Range.{is_none}
use Rattle.machine.specs.Report.{Work, visit, due_at}
use Rattle.machine.specs.Requests.{Asked, Nothing, NotMessage, Reply, Unknown, Asks, asked, hidden, listed, strategy_asked, sampled, sampled_pairs, answer}
use Rattle.machine.specs.Declined.{Action, Connect, Disconnect, Tick, Reading, Log, Line, Call, call_of, action_declined, arguments_declined, line_declined, count_fits, declined}
use Rattle.machine.specs.Machine.{Effect, perform, line_work, step, stored_given}
use Rattle.machine.specs.TwoDevices.{after, connects, is_connect, names, strategy_in, strategy_after, strategy_of}
use Rattle.machine.proofs.TestLaws.{cond_ap, cond_same, passed, eqb_sym}
use Rattle.machine.proofs.StateLaws.{none_connected, pair_visited, pair_sampled, still_connected, other_pair}
use Rattle.machine.proofs.RangeLaws.{range_out}
use Rattle.machine.proofs.StepLaws.{by_cases, accepted, client_fits, by_superseding, asks_is, name_for}
use Rattle.machine.proofs.KeptLaws.{perform_kept}
use Rattle.machine.proofs.AnsweredLaws.{asks_for, sampling_ok}
use Rattle.machine.proofs.GrantedLaws.{granted_is}
use Rattle.machine.proofs.ListLaws.{opened_alone, sheet_is, sent_packets, connect_pair}
use Rattle.machine.proofs.NextLaws.{answer_next}
use Rattle.machine.specs.Opening.{Start}

unset : {A : Type 0} (b : Bool) (x y : A) → y ≡ cond (b && false) x y
unset true x y = refl
unset false x y = refl

module _ (a j : ℕ) where
  -- the strategy of the archive's pair
  abbrev pub strategy_now : State → Strategy
  strategy_now n = (pair_of n a j).strategy

module _ (s : State) (a j : ℕ) (ha : a < 8) (hj : j < 32) where
  visit_strategy : (n : State) (cause : Cause) → strategy_now a j (visit n.sheet n cause).next ≡ strategy_now a j n
  visit_strategy n cause = ap (λ (p : Subscription). p.strategy) (pair_visited n a j ha hj n.sheet cause)
      ∙ (cond_ap (λ (p : Subscription). p.strategy) (due_at n.sheet n cause a j (pair_of n a j)) _ (pair_of n a j) ∙ cond_same (due_at n.sheet n cause a j (pair_of n a j)) (pair_of n a j).strategy)

  -- a strategy is set where the request has one and names the sensor
  set-strategy : (c : ℕ) (m : Message) → leb 1 (length m.args) ≡ true → eqb (length m.args) 1 ≡ false
      → (get_or (sampled_pairs s c (listed s.sheet m) (strategy_asked s.sheet m)) (a * 32 + j) no_subscription).strategy
      ≡ cond (eqb c a && true) (cond (names s.sheet j m) (strategy_asked s.sheet m) (strategy_now a j s)) (strategy_now a j s)
  unfolding sampled
  set-strategy c m l e = ap (λ (p : Subscription). p.strategy) (pair_sampled s a j ha hj c (listed s.sheet m) st)
      ∙ rw (eqb_sym a c, le-leb 2 (length m.args) (omega (arith, leb-true 1 (length m.args) l, eqb-false (length m.args) 1 e))) (go (eqb c a) (has j (listed s.sheet m)) (is_none st))
    where
      st : Strategy
      st = strategy_asked s.sheet m

      p : Subscription
      p = pair_of s a j

      go : (b d n : Bool) → (cond (b && d) (cond n (record { strategy = st; reported = p.reported; sample = p.sample; time = p.time }) (record { strategy = st; reported = true; sample = present s j; time = s.clock })) p).strategy
          ≡ cond (b && true) (cond d st p.strategy) p.strategy
      go true true true = refl
      go true true false = refl
      go true false n = refl
      go false d n = refl

  -- a query has none
  query_strategy : (c : ℕ) (m : Message) → eqb (length m.args) 1 ≡ true
      → strategy_now a j s ≡ cond (eqb c a && true) (cond (names s.sheet j m) (strategy_asked s.sheet m) (strategy_now a j s)) (strategy_now a j s)
  query_strategy c m e = rw (lt-leb 2 (length m.args) (omega (arith, eqb-true (length m.args) 1 e))) (sym (cond_same (eqb c a && true) (strategy_now a j s)))

  answer_strategy : (c : ℕ) (r : Request) (m : Message) → count_fits r (length m.args) ≡ true → connected (answer s.sheet s c r m).next a ≡ true
      → strategy_now a j (answer s.sheet s c r m).next
      ≡ cond (eqb c a && same (name_for r) (name_for SensorSampling)) (cond (names s.sheet j m) (strategy_asked s.sheet m) (strategy_now a j s)) (strategy_now a j s)
  unfolding count_fits
  answer_strategy c r m = answer_next (λ r n. count_fits r (length m.args) ≡ true → connected n a ≡ true
      → strategy_now a j n ≡ cond (eqb c a && same (name_for r) (name_for SensorSampling)) (cond (names s.sheet j m) (strategy_asked s.sheet m) (strategy_now a j s)) (strategy_now a j s)) s c m
      (λ r e l on. rw e (unset (eqb c a) _ (strategy_now a j s))) (λ n l on. unset (eqb c a) _ (strategy_now a j s))
      (λ b n l on. absurd (true≢false (sym on ∙ none_connected a))) (λ b n l on. absurd (true≢false (sym on ∙ none_connected a)))
      (λ e l on. query_strategy c m e) (λ e l on. set-strategy c m l e) r

  line_strategy : (c : ℕ) (line : List ℕ) → action_declined s.sheet s (Line c line) ≡ 0 → connected (line_work s.sheet s c (asked line)).next a ≡ true
      → strategy_now a j (line_work s.sheet s c (asked line)).next
      ≡ cond (eqb c a && asks_for SensorSampling (asked line)) (strategy_in s.sheet j (parse line) (strategy_now a j s)) (strategy_now a j s)
  unfolding line_work action_declined line_declined
  line_strategy c line d on = go (asked line) refl on (client_fits s.sheet.profile (not (connected s c)) c (line_declined s.sheet (asked line)) d).1.1
    where
      go : (w : Asked) → asked line ≡ w → connected (line_work s.sheet s c w).next a ≡ true → line_declined s.sheet w ≡ 0
          → strategy_now a j (line_work s.sheet s c w).next ≡ cond (eqb c a && asks_for SensorSampling w) (strategy_in s.sheet j (parse line) (strategy_now a j s)) (strategy_now a j s)
      go Nothing e on z = unset (eqb c a) _ (strategy_now a j s)
      go NotMessage e on z = unset (eqb c a) _ (strategy_now a j s)
      go Reply e on z = unset (eqb c a) _ (strategy_now a j s)
      go (Unknown m) e on z = unset (eqb c a) _ (strategy_now a j s)
      go (Asks r m) e on z = answer_strategy c r m (not-false (count_fits r (length m.args)) (passed (not (count_fits r (length m.args))) 15 (arguments_declined s.sheet r m) (omega arith) (passed (hidden s.sheet.profile r) 14 _ (omega arith) z).1).0) on
          ∙ ap (λ p. cond (eqb c a && same (name_for r) (name_for SensorSampling)) (strategy_in s.sheet j p (strategy_now a j s)) (strategy_now a j s)) (sym (asks_is line r m e).parsed)

-- the strategy that a call gives, where it is carried out
abbrev strategy_given : State → ℕ → ℕ → Action → Strategy → Strategy
strategy_given s a j (Connect c address) before = before
strategy_given s a j (Disconnect c) before = before
strategy_given s a j (Tick t) before = before
strategy_given s a j (Reading k r) before = before
strategy_given s a j (Log level logger said) before = before
strategy_given s a j (Line c line) before = cond (eqb c a && asks_for SensorSampling (asked line)) (strategy_in s.sheet j (parse line) before) before

module _ (s : State) (a j : ℕ) (ha : a < 8) (hj : j < 32) where
  perform_strategy : (action : Action) → action_declined s.sheet s action ≡ 0 → is_connect a action ≡ false → connected (perform s.sheet s action).next a ≡ true
      → strategy_now a j (perform s.sheet s action).next ≡ strategy_given s a j action (strategy_now a j s)
  unfolding perform with_reading
  perform_strategy (Connect c address) d n on = ap (λ (p : Subscription). p.strategy) (other_pair s a j ha hj c (client_at address) n)
  perform_strategy (Disconnect c) d n on = ap (λ (p : Subscription). p.strategy) (other_pair s a j ha hj c blank_client (still_connected s a ha c on))
  perform_strategy (Tick t) d n on = visit_strategy s a j ha hj (with_clock s t) _
  perform_strategy (Reading k r) d n on = by_superseding (λ (w : Work). strategy_now a j w.next ≡ strategy_now a j s) s.sheet s k r (λ _. visit_strategy s a j ha hj (with_reading s k (stored_given (sensor_of s.sheet k) r)) _) (λ _. refl)
  perform_strategy (Log level logger said) d n on = refl
  perform_strategy (Line c line) d n on = line_strategy s a j ha hj c line d on

  -- what is read off the call's bytes
  after_is : (action : Action) (lent : List ℕ) (before : Strategy)
      → strategy_after s.sheet a j action (map packet (step s (call_of action lent)).sent) before ≡ cond (is_zero (step s (call_of action lent)).number) (strategy_given s a j action before) before
  after_is (Connect c address) lent before = sym (cond_same (is_zero (step s (call_of (Connect c address) lent)).number) before)
  after_is (Disconnect c) lent before = sym (cond_same (is_zero (step s (call_of (Disconnect c) lent)).number) before)
  after_is (Tick t) lent before = sym (cond_same (is_zero (step s (call_of (Tick t) lent)).number) before)
  after_is (Reading k r) lent before = sym (cond_same (is_zero (step s (call_of (Reading k r) lent)).number) before)
  after_is (Log level logger said) lent before = sym (cond_same (is_zero (step s (call_of (Log level logger said) lent)).number) before)
  after_is (Line c line) lent before = ap (λ g. cond (eqb c a && g) (strategy_in s.sheet j (parse line) before) before) (granted_is s c line lent SensorSampling (sampling_ok s))
      ∙ go (eqb c a) (is_zero (step s (call_of (Line c line) lent)).number) (asks_for SensorSampling (asked line))
    where
      x : Strategy
      x = strategy_in s.sheet j (parse line) before

      go : (b z q : Bool) → cond (b && (z && q)) x before ≡ cond z (cond (b && q) x before) before
      go true true q = refl
      go true false q = refl
      go false true q = refl
      go false false q = refl

  -- one call
  strategy_step : (call : Call) (st : Strategy) → (connected s a ≡ true → strategy_now a j s ≡ st) → connected (step s call).next a ≡ true
      → strategy_now a j (step s call).next ≡ cond (is_zero (step s call).number && is_connect a call.action) None (cond (is_zero (step s call).number) (strategy_given s a j call.action st) st)
  strategy_step call st ih = by_cases (λ (e : Effect). connected e.next a ≡ true
      → strategy_now a j e.next ≡ cond (is_zero e.number && is_connect a call.action) None (cond (is_zero e.number) (strategy_given s a j call.action st) st)) s call
      (λ z on. go z on (is_connect a call.action) refl) (λ n _ on. ih on)
    where
      go : declined s.sheet s call ≡ 0 → connected (perform s.sheet s call.action).next a ≡ true → (b : Bool) → is_connect a call.action ≡ b
          → strategy_now a j (perform s.sheet s call.action).next ≡ cond b None (strategy_given s a j call.action st)
      go z on true e = ap (λ (p : Subscription). p.strategy) (connect_pair a j ha hj s call.action e)
      go z on false e = perform_strategy call.action (accepted s call z).fits e on
          ∙ ap (strategy_given s a j call.action) (ih (perform_kept s (range_out s (accepted s call z).in_range_lem) a j ha hj call.action (accepted s call z).fits e on).before)

module _ (a j : ℕ) (ha : a < 8) (hj : j < 32) (start : Start) where
  pub strategy_is : (h : List Call) → connected (after start h) a ≡ true → (pair_of (after start h) a j).strategy ≡ strategy_of start a j h
  unfolding after strategy_of
  strategy_is [] on = absurd (true≢false (sym on ∙ opened_alone start a))
  strategy_is (call ∷ h) on = strategy_step (after start h) a j ha hj call (strategy_of start a j h) (strategy_is h) on
      ∙ ap (cond (connects start a h call) None) (sym (after_is (after start h) a j ha hj call.action call.lent (strategy_of start a j h))
      ∙ ap₂ (λ sheet ps. strategy_after sheet a j call.action ps (strategy_of start a j h)) (sheet_is start h) (sym (sent_packets start a h call)))
