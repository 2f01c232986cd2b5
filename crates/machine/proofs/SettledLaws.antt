-- After every list of calls, a connected client's last reports tell what their strategies promise of the present readings.
use Prim.Native.Nat.{ℕ, ◌<◌}
use mathlib.Core.Path.{◌≡◌, refl, sym, ◌∙◌, subst}
use mathlib.Core.Bool.{Bool, true, false, cond, ◌&&◌, true≢false}
use mathlib.Core.List.{List, [], ◌∷◌}
use lib.Dec.{eqb}
use borrow.Author.Tests.{lt-ltb}
use Rattle.machine.specs.declared.Sheet.{Sheet}
use Rattle.machine.specs.declared.Stored.{Stored}
use Rattle.machine.specs.declared.Strategy.{Strategy}
use Rattle.machine.specs.declared.State.{State}
use Rattle.machine.specs.declared.Client.{Client}
use Rattle.machine.specs.declared.Cause.TheVariants.{Tick as Ticked, Reading as Read}
use Rattle.machine.specs.Places.{has}
use Rattle.machine.specs.Sheet.{sensor_of}
use Rattle.machine.specs.State.{present, stored_of, connected, pair_of, with_clock, with_reading, with_pairs, with_client, client_at, blank_client}
use Rattle.machine.specs.Report.{Work, visit, due, due_at, reported}
use Rattle.machine.specs.Requests.{asked, listed, strategy_asked, sampled_pairs}
use Rattle.machine.specs.Declined.{Action, Connect, Disconnect, Tick, Reading, Log, Line, Call, declined}
use Rattle.machine.specs.Machine.{Effect, perform, line_work, step, stored_given}
use Rattle.machine.specs.TwoDevices.{after, sheet_of, is_connect}
use Rattle.machine.proofs.TestLaws.{cond_either, cond_false, eqb_sym}
use Rattle.machine.proofs.StateLaws.{none_connected, pair_visited, pair_sampled, stored_after, still_connected, other_pair}
use Rattle.machine.proofs.RangeLaws.{range_out}
use Rattle.machine.proofs.StepLaws.{by_cases, accepted, by_superseding}
use Rattle.machine.proofs.KeptLaws.{perform_kept}
use Rattle.machine.proofs.NextLaws.{answer_next, line_next}
use Rattle.machine.proofs.ListLaws.{opened_alone, sheet_is, connect_pair}
use Rattle.machine.proofs.KnownLaws.{Good, good_fresh, good_sampled, good_visit}
use Rattle.machine.specs.Opening.{Start}

module _ (a j : ℕ) (ha : a < 8) (hj : j < 32) where
  -- the archive's pair for the sensor is good
  abbrev pub GoodIn : Sheet → State → Type 0
  GoodIn sheet s = Good (sensor_of sheet j) s.clock (present s j) (pair_of s a j)

  -- a visit at a new clock
  tick_good : (s : State) (t : ℕ) → j < s.sheet.count → GoodIn s.sheet s → connected s a ≡ true → GoodIn s.sheet (visit s.sheet (with_clock s t) Ticked).next
  unfolding due_at
  tick_good s t hs g on = subst (λ p. Good (sensor_of s.sheet j) t (present s j) p) (sym (pair_visited (with_clock s t) a j ha hj s.sheet Ticked ∙ rw (on, lt-ltb j s.sheet.count hs)))
      (good_visit (sensor_of s.sheet j) t (present s j) false s.clock (pair_of s a j) g.was_reported (λ _. g.known))

  -- a visit after a reading, of this sensor or of another
  reading_good : (s : State) (k : ℕ) (x : Stored) → j < s.sheet.count → GoodIn s.sheet s → connected s a ≡ true → GoodIn s.sheet (visit s.sheet (with_reading s k x) (Read k)).next
  unfolding due_at with_reading
  reading_good s k x hs g on = subst (λ p. Good (sensor_of s.sheet j) s.clock (present (with_reading s k x) j) p)
      (sym (pair_visited (with_reading s k x) a j ha hj s.sheet (Read k) ∙ rw (on, lt-ltb j s.sheet.count hs))) (go (eqb k j) refl)
    where
      n : State
      n = with_reading s k x

      go : (b : Bool) → eqb k j ≡ b → Good (sensor_of s.sheet j) s.clock (present n j)
          (cond (b && due true s.clock (sensor_of s.sheet j) (present n j) (pair_of s a j)) (reported s.clock (present n j) (pair_of s a j)) (pair_of s a j))
      go true e = good_visit (sensor_of s.sheet j) s.clock (present n j) true 0 (pair_of s a j) g.was_reported (λ q. absurd (true≢false q))
      go false e = subst (λ (y : Stored). Good (sensor_of s.sheet j) s.clock y.sample (pair_of s a j))
          (sym (stored_after s k j x hj ∙ cond_false (eqb j k) _ (stored_of s j) (eqb_sym j k ∙ e))) g

  -- strategies set
  set_good : (s : State) (c : ℕ) (js : List ℕ) (st : Strategy) → GoodIn s.sheet s → GoodIn s.sheet (with_pairs s (sampled_pairs s c js st))
  set_good s c js st g = subst (Good (sensor_of s.sheet j) s.clock (present s j)) (sym (pair_sampled s a j ha hj c js st))
      (cond_either (Good (sensor_of s.sheet j) s.clock (present s j)) (eqb a c && has j js) _ (pair_of s a j) (good_sampled (sensor_of s.sheet j) s.clock (present s j) st (pair_of s a j)) g)

  line_good : (s : State) (c : ℕ) (line : List ℕ) → GoodIn s.sheet s → connected (line_work s.sheet s c (asked line)).next a ≡ true → GoodIn s.sheet (line_work s.sheet s c (asked line)).next
  line_good s c line g = line_next (λ n. connected n a ≡ true → GoodIn s.sheet n) s c (asked line) (λ _. g)
      (λ r m e. answer_next (λ r n. connected n a ≡ true → GoodIn s.sheet n) s c m (λ r e _. g) (λ l _. g)
      (λ b l on. absurd (true≢false (sym on ∙ none_connected a))) (λ b l on. absurd (true≢false (sym on ∙ none_connected a)))
      (λ e _. g) (λ e _. set_good s c (listed s.sheet m) (strategy_asked s.sheet m) g) r)

  -- another client's connection
  other_good : (s : State) → GoodIn s.sheet s → (c : ℕ) (k : Client) → eqb c a ≡ false → GoodIn s.sheet (with_client s c k)
  unfolding with_client
  other_good s g c k e = subst (Good (sensor_of s.sheet j) s.clock (present s j)) (sym (other_pair s a j ha hj c k e)) g

  perform_good : (s : State) → j < s.sheet.count → GoodIn s.sheet s → connected s a ≡ true → (action : Action) → is_connect a action ≡ false
      → connected (perform s.sheet s action).next a ≡ true → GoodIn s.sheet (perform s.sheet s action).next
  unfolding perform
  perform_good s hs g on (Connect c address) n After-on = other_good s g c (client_at address) n
  perform_good s hs g on (Disconnect c) n After-on = other_good s g c blank_client (still_connected s a ha c After-on)
  perform_good s hs g on (Tick t) n After-on = tick_good s t hs g on
  perform_good s hs g on (Reading k x) n After-on = by_superseding (λ (w : Work). GoodIn s.sheet w.next) s.sheet s k x (λ _. reading_good s k (stored_given (sensor_of s.sheet k) x) hs g on) (λ _. g)
  perform_good s hs g on (Log level logger said) n After-on = g
  perform_good s hs g on (Line c line) n After-on = line_good s c line g After-on

  -- one call
  good_step : (s : State) (call : Call) → j < s.sheet.count → (connected s a ≡ true → GoodIn s.sheet s) → connected (step s call).next a ≡ true → GoodIn s.sheet (step s call).next
  good_step s call hs ih = by_cases (λ (e : Effect). connected e.next a ≡ true → GoodIn s.sheet e.next) s call (λ z on. go z on (is_connect a call.action) refl) (λ n _. ih)
    where
      go : declined s.sheet s call ≡ 0 → connected (perform s.sheet s call.action).next a ≡ true → (b : Bool) → is_connect a call.action ≡ b → GoodIn s.sheet (perform s.sheet s call.action).next
      go z on true e = subst (Good (sensor_of s.sheet j) _ _) (sym (connect_pair a j ha hj s call.action e)) (good_fresh (sensor_of s.sheet j) _ _)
      go z on false e = let r = range_out s (accepted s call z).in_range_lem in let b = (perform_kept s r a j ha hj call.action (accepted s call z).fits e on).before in
          perform_good s hs (ih b) b call.action e on

  pub good : (start : Start) → j < (sheet_of start).count → (h : List Call) → connected (after start h) a ≡ true → GoodIn (sheet_of start) (after start h)
  unfolding after
  good start hs [] on = absurd (true≢false (sym on ∙ opened_alone start a))
  good start hs (call ∷ h) on = subst (λ sheet. GoodIn sheet (step (after start h) call).next) (sheet_is start h)
      (good_step (after start h) call (subst (λ sheet. j < sheet.count) (sym (sheet_is start h)) hs) (λ q. subst (λ sheet. GoodIn sheet (after start h)) (sym (sheet_is start h)) (good start hs h q)) on)
