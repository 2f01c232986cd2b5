-- A call of the others: it leaves a state that is alike for client a, and tells client a nothing but what others show in.
use Prim.Native.Nat.{ℕ, suc, ◌<◌}
use mathlib.Core.Path.{◌≡◌, refl, ap, sym, ◌∙◌}
use mathlib.Core.Bool.{Bool, true, false, cond, not, ◌&&◌, ◌||◌, true≢false}
use mathlib.Core.List.{List, [], ◌∷◌, map}
use lib.Dec.{eqb, leb, ltb}
use lib.ListN.{length, get_or}
use Rattle.output.specs.Text.{same}
use Rattle.message.specs.Message.{Message}
use Rattle.message.specs.Delivery.{Delivery, to}
use Rattle.machine.specs.declared.Strategy.{Strategy}
use Rattle.machine.specs.declared.Client.{Client}
use Rattle.machine.specs.declared.State.{State}
use Rattle.machine.specs.declared.Request.{Request}
use Rattle.machine.specs.declared.Request.TheVariants.{ClientList, Halt, Help, LogLevel, Restart, SensorList, SensorSampling, SensorValue, VersionList, Watchdog}
use Rattle.machine.specs.Places.{has, is_zero, Each}
use Rattle.machine.specs.State.{present, connected, pair_of, with_level, with_pairs, with_client, client_at, blank_client}
use Rattle.machine.specs.Range.{is_none}
use Rattle.machine.specs.Messages
use Rattle.machine.specs.Report.{Work}
use Rattle.machine.specs.Requests.{Asked, Nothing, NotMessage, Reply, Unknown, Asks, asked, argument, listed, first_of, strategy_asked, sampled, sampled_pairs, sampled_sends, sampling, sends_only, answer}
use Rattle.machine.specs.Declined.{Action, Connect, Disconnect, Tick, Reading, Log, Line, Call, line_refusal, refusal}
use Rattle.machine.specs.Machine.{Effect, entries, line_work, perform, step}
use Rattle.machine.specs.Others.{is_shared, AlikeFor}
use Rattle.machine.proofs.TestLaws.{eqb_sym, cond_false}
use Rattle.machine.proofs.PlacesLaws.{each_append, each_weaker, each_of}
use Rattle.machine.proofs.StateLaws.{pair_sampled, client_after, other_pair}
use Rattle.machine.proofs.StepLaws.{name_for, connect_each, by_cases}
use Rattle.machine.proofs.AnsweredLaws.{asks_for}
use Rattle.machine.proofs.NextLaws.{answer_next, ends_connections}
use Rattle.machine.proofs.WatchLaws.{own, told_to, told_none, Aside, aside_told}
use Rattle.machine.proofs.BesideLaws.{beside_alike, alike_refl, away, where_aside}

-- Deliveries that go to client c alone.

abbrev pub To : ℕ → Delivery → Type 0
To c d = d.client ≡ c

counted_to : (c : ℕ) (m : Message) (ms : List Message) → Each (To c) (Messages.counted_answer c m ms)
unfolding Messages.counted_answer
counted_to c m ms = each_append (To c) (Messages.all_to c ms) _ (each_of (To c) (to c) ms (λ m. refl)) (refl, tt)

-- another client is told nothing
to_other : (a c : ℕ) → eqb c a ≡ false → (ds : List Delivery) → Each (To c) ds → told_to a ds ≡ []
to_other a c e ds h = aside_told a ds (each_weaker (To c) (Aside a) (λ d k. away (eqb d.client a) (own d.message) (ap (λ c. eqb c a) k ∙ e)) ds h)

module _ (s : State) where
  sampling_to : (c : ℕ) (m : Message) → Each (To c) (sampling s.sheet s c m).sent
  unfolding sampling sampled_sends
  sampling_to c m = go (eqb (length m.args) 1) (is_none asks)
    where
      js : List ℕ
      js = listed s.sheet m

      asks : Strategy
      asks = strategy_asked s.sheet m

      replied : Strategy → Message
      replied st = Messages.sampling_reply m (argument m 0) (first_of s.sheet js) st

      go : (b n : Bool) → Each (To c) (cond b (sends_only s (to c (replied (pair_of s c (get_or js 0 0)).strategy) ∷ []))
          (record { sent = to c (replied asks) ∷ cond n [] (map (λ j. to c (Messages.report_of s.sheet s j)) js); next = with_pairs s (sampled_pairs s c js asks) })).sent
      go true n = (refl, tt)
      go false true = (refl, tt)
      go false false = (refl, each_of (To c) (λ j. to c (Messages.report_of s.sheet s j)) js (λ j. refl))

  -- one that ends no connection goes to its sender alone
  pub answer_to : (c : ℕ) (r : Request) (m : Message) → (same (name_for r) (name_for Halt) || same (name_for r) (name_for Restart)) ≡ false → Each (To c) (answer s.sheet s c r m).sent
  unfolding answer
  answer_to c ClientList m h = counted_to c m _
  answer_to c Halt m h = absurd (true≢false h)
  answer_to c Help m h = counted_to c m _
  answer_to c LogLevel m h = (refl, tt)
  answer_to c Restart m h = absurd (true≢false h)
  answer_to c SensorList m h = counted_to c m _
  answer_to c SensorSampling m h = sampling_to c m
  answer_to c SensorValue m h = counted_to c m _
  answer_to c VersionList m h = counted_to c m _
  answer_to c Watchdog m h = (refl, tt)

  -- a refusal goes to its sender alone
  pub refusal_to : (n c : ℕ) (line : List ℕ) → Each (To c) (refusal s n (Line c line))
  unfolding refusal line_refusal
  refusal_to n c line = go (ltb n 12 || ltb 23 n) (asked line)
    where
      go : (b : Bool) (w : Asked) → Each (To c) (cond b [] (line_refusal s.clock c n w))
      go true w = tt
      go false Nothing = tt
      go false NotMessage = (refl, tt)
      go false Reply = (refl, tt)
      go false (Unknown m) = (refl, tt)
      go false (Asks r m) = (refl, tt)

module _ (a : ℕ) (ha : a < 8) (s : State) where
  -- Requests.

  -- one that ends no connection leaves client a as it was
  sampled_leaves : (c : ℕ) (js : List ℕ) (st : Strategy) → eqb c a ≡ false → AlikeFor a s (with_pairs s (sampled_pairs s c js st))
  sampled_leaves c js st e = beside_alike a s s.level s.clients (sampled_pairs s c js st) (record {
    client = refl;
    pair = λ j hj. sym (pair_sampled s a j ha hj c js st ∙ ap (λ b. cond (b && has j js) (sampled s.clock (present s j) st (pair_of s a j)) (pair_of s a j)) (eqb_sym a c ∙ e));
  })

  level_leaves : (k : ℕ) → AlikeFor a s (with_level s k)
  level_leaves k = beside_alike a s k s.clients s.subscriptions (record { client = refl; pair = λ j h. refl })

  answer_leaves : (c : ℕ) (m : Message) → eqb c a ≡ false → (r : Request) → (same (name_for r) (name_for Halt) || same (name_for r) (name_for Restart)) ≡ false → AlikeFor a s (answer s.sheet s c r m).next
  answer_leaves c m e = answer_next (λ r n. (same (name_for r) (name_for Halt) || same (name_for r) (name_for Restart)) ≡ false → AlikeFor a s n) s c m
      (λ r q h. alike_refl a s) (λ k h. level_leaves k) (λ b k h. absurd (true≢false h)) (λ b k h. absurd (true≢false h))
      (λ q h. alike_refl a s) (λ q h. sampled_leaves c (listed s.sheet m) (strategy_asked s.sheet m) e)

  -- Calls.

  -- what a call of another leaves and sends
  abbrev Leaves : Work → Type 0
  Leaves w = AlikeFor a s w.next × (told_to a w.sent ≡ [])

  client_leaves : (c : ℕ) (k : Client) → eqb c a ≡ false → AlikeFor a s (with_client s c k)
  unfolding with_client
  client_leaves c k e = beside_alike a s s.level _ _ (record {
    client = sym (client_after s c a k ha ∙ cond_false (eqb a c) k _ (eqb_sym a c ∙ e));
    pair = λ j hj. sym (other_pair s a j ha hj c k e);
  })

  log_leaves : (level : ℕ) (logger said : List ℕ) → Leaves (sends_only s (entries s level logger said))
  unfolding entries
  log_leaves level logger said = (alike_refl a s, go (leb level s.level))
    where
      go : (b : Bool) → told_to a (cond b (Messages.to_all s (Messages.log_entry level s.clock logger said)) []) ≡ []
      go true = aside_told a _ (where_aside a (connected s) (Messages.log_entry level s.clock logger said) refl)
      go false = told_none a

  line_leaves : (c : ℕ) → eqb c a ≡ false → (w : Asked) → (asks_for Halt w || asks_for Restart w) ≡ false → Leaves (line_work s.sheet s c w)
  unfolding line_work
  line_leaves c e Nothing h = (alike_refl a s, told_none a)
  line_leaves c e NotMessage h = (alike_refl a s, told_none a)
  line_leaves c e Reply h = (alike_refl a s, told_none a)
  line_leaves c e (Unknown m) h = (alike_refl a s, told_none a)
  line_leaves c e (Asks r m) h = (answer_leaves c m e r h, to_other a c e (answer s.sheet s c r m).sent (answer_to s c r m h))

  perform_leaves : (action : Action) → is_shared a action ≡ false → ends_connections action ≡ false → Leaves (perform s.sheet s action)
  unfolding perform
  perform_leaves (Connect c address) e h = (
    client_leaves c (client_at address) e,
    aside_told a _ (connect_each (Aside a) s.sheet s c address (λ _ _. away (eqb c a) _ e) (away (eqb c a) _ e) (away (eqb c a) _ e) (where_aside a (λ k. connected s k && not (eqb k c)) (Messages.client_connected address) refl)),
  )
  perform_leaves (Disconnect c) e h = (client_leaves c blank_client e, told_none a)
  perform_leaves (Tick n) e h = absurd (true≢false e)
  perform_leaves (Reading j x) e h = absurd (true≢false e)
  perform_leaves (Log level logger said) e h = log_leaves level logger said
  perform_leaves (Line c line) e h = line_leaves c e (asked line) h

  refused_told : (n : ℕ) (action : Action) → is_shared a action ≡ false → told_to a (refusal s n action) ≡ []
  unfolding refusal
  refused_told n (Connect c address) e = told_none a
  refused_told n (Disconnect c) e = told_none a
  refused_told n (Tick m) e = told_none a
  refused_told n (Reading j x) e = told_none a
  refused_told n (Log level logger said) e = told_none a
  refused_told n (Line c line) e = to_other a c e (refusal s n (Line c line)) (refusal_to s n c line)

  -- a call of another that ends no connection
  pub step_leaves : (call : Call) → is_shared a call.action ≡ false → (is_zero (step s call).number && ends_connections call.action) ≡ false
      → AlikeFor a s (step s call).next × (told_to a (step s call).sent ≡ [])
  step_leaves call e = by_cases (λ (f : Effect). (is_zero f.number && ends_connections call.action) ≡ false → AlikeFor a s f.next × (told_to a f.sent ≡ [])) s call
      (λ z h. perform_leaves call.action e h) (λ n z h. (alike_refl a s, refused_told (suc n) call.action e))
