-- A call of both lists, in two states that are alike for client a: the dispatcher's own calls, readings and ticks.
use Prim.Native.Nat.{ℕ, zero, suc, ◌<◌}
use native.Mathlib.Omega.{arith}
use mathlib.Core.Path.{◌≡◌, refl, ap, sym, ◌∙◌, subst}
use mathlib.Core.Bool.{Bool, true, false, cond, not, ◌&&◌, true≢false}
use mathlib.Core.List.{List, [], ◌∷◌, ◌++◌, map}
use lib.Dec.{eqb, ltb}
use lib.ListN.{length, get_or}
use borrow.Author.Tests.{eqb-true}
use Rattle.output.specs.Text.{text}
use Rattle.message.specs.Message.{Message}
use Rattle.message.specs.Delivery.{to}
use Rattle.machine.specs.declared.Strategy.{Strategy}
use Rattle.machine.specs.declared.Client.{Client}
use Rattle.machine.specs.declared.Subscription.{Subscription}
use Rattle.machine.specs.declared.State.{State}
use Rattle.machine.specs.declared.Request.{Request}
use Rattle.machine.specs.declared.Request.TheVariants.{ClientList, Halt, Help, LogLevel, Restart, SensorList, SensorSampling, SensorValue, VersionList, Watchdog}
use Rattle.machine.specs.declared.Cause.TheVariants.{Tick as Ticked, Reading as Read}
use Rattle.machine.specs.Places.{one_if, has, Each}
use Rattle.machine.specs.Sheet.{single, sensor_of}
use Rattle.machine.specs.State.{present, stored_of, supersedes, connected, pair_of, with_clock, with_reading, with_level, with_pairs, with_client, emptied, client_at, blank_client}
use Rattle.machine.specs.Range.{in_range}
use Rattle.machine.specs.Messages
use Rattle.machine.specs.Report.{Work}
use Rattle.machine.specs.Requests.{Asked, Nothing, NotMessage, Reply, Unknown, Asks, asked, hidden, argument, addresses, level_asked, listed, first_of, strategy_asked, sampled, sampled_pairs, sampled_sends, sampling, sends_only, end_connections, answer}
use Rattle.machine.specs.Declined.{Action, Connect, Disconnect, Tick, Reading, Log, Line, call_of, tick_fits, client_declined, connect_refused, address_fits, count_fits, sampling_declined, arguments_declined, line_declined, action_declined, declined, refusal}
use Rattle.machine.specs.Machine.{Effect, stored_given, reading_stored, reading_work, greeting, connect_single, connect_sends, line_work, perform, outcome, step}
use Rattle.machine.specs.Others.{is_shared, of_others, AlikeFor}
use Rattle.machine.proofs.TestLaws.{passed}
use Rattle.machine.proofs.PlacesLaws.{each_append, each_map, each_of}
use Rattle.machine.proofs.StateLaws.{pair_sampled, pair_of_client, client_after}
use Rattle.machine.proofs.RangeLaws.{InRange, sensors_of}
use Rattle.machine.proofs.StepLaws.{name_for, accepted, client_fits, asks_is}
use Rattle.machine.proofs.SamplingLaws.{listed_below, first_listed}
use Rattle.machine.proofs.WatchLaws.{own, told_to, told_more, Aside, gather_told}
use Rattle.machine.proofs.BesideLaws.{beside, Same, beside_alike, WorkAlike, shown, both_aside, where_aside, one_told, visit_alike}

-- informs and a reply in which others show
counted_aside : {A : Type 0} (a c : ℕ) (m : Message) (f : A → Message) (xs : List A) → own m ≡ false → ((x : A) → own (f x) ≡ false) → Each (Aside a) (Messages.counted_answer c m (map f xs))
unfolding Messages.counted_answer
counted_aside a c m f xs e h = each_append (Aside a) (Messages.all_to c (map f xs)) _
    (each_map (Aside a) (to c) (map f xs) (each_of (λ k. Aside a (to c k)) f xs (λ x. shown (eqb c a) (own (f x)) (h x)))) (shown (eqb c a) (own m) e, tt)

-- a reply of a name in which others show
reply_shown : (m : Message) (r : Request) → m.name ≡ name_for r → of_others (name_for r) ≡ true → own m ≡ false
reply_shown m r e h = ap (λ n. not (of_others n)) e ∙ ap not h

module _ (a : ℕ) (ha : a < 8) (s : State) (r : InRange s) (l : ℕ) (ks : List Client) (ps : List Subscription) (g : Same a s ks ps) where
  abbrev t : State
  t = beside s l ks ps

  state_alike : AlikeFor a s t
  state_alike = beside_alike a s l ks ps g

  there_same : (c : ℕ) → eqb c a ≡ true → connected s c ≡ connected t c
  there_same c e = subst (λ c. connected s c ≡ connected t c) (sym (eqb-true c a e)) (ap (λ (k : Client). k.connected) g.client)

  -- Requests.

  sampled_alike : (js : List ℕ) (st : Strategy) → AlikeFor a (with_pairs s (sampled_pairs s a js st)) (with_pairs t (sampled_pairs t a js st))
  sampled_alike js st = beside_alike a (with_pairs s (sampled_pairs s a js st)) l ks (sampled_pairs t a js st) (record {
    client = g.client;
    pair = λ j hj. pair_sampled s a j ha hj a js st
        ∙ (ap (λ p. cond (eqb a a && has j js) (sampled s.clock (present s j) st p) p) (g.pair j hj) ∙ sym (pair_sampled t a j ha hj a js st));
  })

  -- one name alone, or a strategy
  sampling_alike : (m : Message) → sampling_declined s.sheet m ≡ 0 → WorkAlike a (sampling s.sheet s a m) (sampling s.sheet t a m)
  unfolding sampling sampled_sends
  sampling_alike m d = go (eqb (length m.args) 1)
    where
      js : List ℕ
      js = listed s.sheet m

      first : get_or js 0 0 < 32
      first = omega (arith, listed_below s.sheet m d (get_or js 0 0) (first_listed s.sheet m), (sensors_of s r).count_most)

      replied : Subscription → Message
      replied p = Messages.sampling_reply m (argument m 0) (first_of s.sheet js) p.strategy

      queries : State → Work
      queries n = sends_only n (to a (replied (pair_of n a (get_or js 0 0))) ∷ [])

      sets : State → Work
      sets n = record { sent = sampled_sends s.sheet n a m js (strategy_asked s.sheet m); next = with_pairs n (sampled_pairs n a js (strategy_asked s.sheet m)) }

      go : (b : Bool) → WorkAlike a (cond b (queries s) (sets s)) (cond b (queries t) (sets t))
      go true = record { states = state_alike; told = ap (λ p. told_to a (to a (replied p) ∷ [])) (g.pair (get_or js 0 0) first) }
      go false = record { states = sampled_alike js (strategy_asked s.sheet m); told = refl }

  -- all are forgotten, and each that is connected is told
  ending_alike : (m : Message) (why : List ℕ) (h : Bool) (i k : ℕ) → WorkAlike a (end_connections s a m why h i) (end_connections t a m why h k)
  unfolding Messages.to_where
  ending_alike m why h i k = record {
    states = beside_alike a (emptied s h i) k _ _ (record { client = refl; pair = λ j hj. refl });
    told = told_more a _ _ _ (gather_told a _ _ 8 (λ c hc. one_told a c (Messages.disconnect why) (connected s c) (connected t c) (there_same c)));
  }

  answer_alike : (q : Request) (m : Message) → m.name ≡ name_for q → arguments_declined s.sheet q m ≡ 0 → WorkAlike a (answer s.sheet s a q m) (answer s.sheet t a q m)
  unfolding answer arguments_declined Messages.value_inform
  answer_alike ClientList m e d = record { states = state_alike; told = both_aside a _ _ (listing s) (listing t) }
    where
      listing : (n : State) → Each (Aside a) (Messages.counted_answer a m (map (Messages.client_inform m.id) (addresses n)))
      listing n = counted_aside a a m (Messages.client_inform m.id) (addresses n) (reply_shown m ClientList e refl) (λ x. refl)
  answer_alike Halt m e d = ending_alike m (text "Device halting.") true s.level l
  answer_alike Help m e d = record { states = state_alike; told = refl }
  answer_alike LogLevel m e d = record {
    states = beside_alike a (with_level s (level_asked s m)) (level_asked t m) ks ps (record { client = g.client; pair = g.pair });
    told = both_aside a _ _ (shown (eqb a a) (own m) (reply_shown m LogLevel e refl), tt) (shown (eqb a a) (own m) (reply_shown m LogLevel e refl), tt);
  }
  answer_alike Restart m e d = ending_alike m (text "Device restarting.") false _ _
  answer_alike SensorList m e d = record { states = state_alike; told = refl }
  answer_alike SensorSampling m e d = sampling_alike m d
  answer_alike SensorValue m e d = record { states = state_alike; told = refl }
  answer_alike VersionList m e d = record { states = state_alike; told = refl }
  answer_alike Watchdog m e d = record { states = state_alike; told = refl }

  nothing_alike : WorkAlike a (sends_only s []) (sends_only t [])
  nothing_alike = record { states = state_alike; told = refl }

  line_alike : (line : List ℕ) → action_declined s.sheet s (Line a line) ≡ 0 → WorkAlike a (line_work s.sheet s a (asked line)) (line_work s.sheet t a (asked line))
  unfolding action_declined line_declined line_work
  line_alike line d = go (asked line) refl (client_fits s.sheet.profile (not (connected s a)) a (line_declined s.sheet (asked line)) d).1.1
    where
      go : (w : Asked) → asked line ≡ w → line_declined s.sheet w ≡ 0 → WorkAlike a (line_work s.sheet s a w) (line_work s.sheet t a w)
      go Nothing e z = nothing_alike
      go NotMessage e z = nothing_alike
      go Reply e z = nothing_alike
      go (Unknown m) e z = nothing_alike
      go (Asks q m) e z = answer_alike q m (asks_is line q m e).named (passed (not (count_fits q (length m.args))) 15 (arguments_declined s.sheet q m) (omega arith) (passed (hidden s.sheet.profile q) 14 _ (omega arith) z).1).1

  -- Calls.

  client_alike : (c : ℕ) (k : Client) → AlikeFor a (with_client s c k) (with_client t c k)
  unfolding with_client
  client_alike c k = beside_alike a (with_client s c k) l _ _ (record {
    client = client_after s c a k ha ∙ (ap (cond (eqb a c) k) g.client ∙ sym (client_after t c a k ha));
    pair = λ j hj. pair_of_client s a j ha hj c k ∙ (ap (cond (eqb a c) _) (g.pair j hj) ∙ sym (pair_of_client t a j ha hj c k));
  })

  -- the lines of its own connect, and `#client-connected` aside
  connect_told : (c : ℕ) (address : List ℕ) → eqb c a ≡ true → told_to a (connect_sends s.sheet s c address) ≡ told_to a (connect_sends s.sheet t c address)
  unfolding connect_sends
  connect_told c address e = go (single s.sheet.profile)
    where
      others : (n : State) → Each (Aside a) (Messages.to_others n c (Messages.client_connected address))
      others n = where_aside a (λ k. connected n k && not (eqb k c)) (Messages.client_connected address) refl

      go : (b : Bool) → told_to a (cond b (connect_single s.sheet s c address) (greeting s.sheet c ++ Messages.to_others s c (Messages.client_connected address)))
          ≡ told_to a (cond b (connect_single s.sheet t c address) (greeting s.sheet c ++ Messages.to_others t c (Messages.client_connected address)))
      go true = ap (λ b. told_to a (one_if b (to c (Messages.displaced address)) ++ greeting s.sheet c)) (there_same c e)
      go false = told_more a _ _ _ (told_more a _ _ _ (both_aside a _ _ (others s) (others t)))

  perform_alike : (action : Action) → is_shared a action ≡ true → action_declined s.sheet s action ≡ 0 → WorkAlike a (perform s.sheet s action) (perform s.sheet t action)
  unfolding perform reading_work with_reading
  perform_alike (Connect c address) e d = record { states = client_alike c (client_at address); told = connect_told c address e }
  perform_alike (Disconnect c) e d = record { states = client_alike c blank_client; told = refl }
  perform_alike (Tick n) e d = visit_alike a ha (with_clock s n) l ks ps (record { client = g.client; pair = g.pair }) Ticked
  perform_alike (Reading j x) e d = go (supersedes x.time (stored_of s j))
    where
      go : (b : Bool) → WorkAlike a (cond b (reading_stored s.sheet s j x) (sends_only s [])) (cond b (reading_stored s.sheet t j x) (sends_only t []))
      go true = visit_alike a ha (with_reading s j (stored_given (sensor_of s.sheet j) x)) l ks ps (record { client = g.client; pair = g.pair }) (Read j)
      go false = nothing_alike
  perform_alike (Log level logger said) e d = absurd (true≢false (sym e))
  perform_alike (Line c line) e d = subst (λ c. action_declined s.sheet s (Line c line) ≡ 0 → WorkAlike a (line_work s.sheet s c (asked line)) (line_work s.sheet t c (asked line)))
      (sym (eqb-true c a e)) (line_alike line) d

  -- Rows.

  rows_same : (action : Action) → is_shared a action ≡ true → action_declined s.sheet s action ≡ action_declined s.sheet t action
  unfolding action_declined tick_fits
  rows_same (Connect c address) e = ap (λ b. client_declined s.sheet.profile (connect_refused s.sheet.profile b) c (cond (address_fits address) 0 7)) (there_same c e)
  rows_same (Disconnect c) e = ap (λ b. client_declined s.sheet.profile (not b) c 0) (there_same c e)
  rows_same (Tick n) e = refl
  rows_same (Reading j x) e = refl
  rows_same (Log level logger said) e = absurd (true≢false (sym e))
  rows_same (Line c line) e = ap (λ b. client_declined s.sheet.profile (not b) c (line_declined s.sheet (asked line))) (there_same c e)

  refusal_same : (n : ℕ) (action : Action) → refusal s n action ≡ refusal t n action
  unfolding refusal
  refusal_same n (Connect c address) = refl
  refusal_same n (Disconnect c) = refl
  refusal_same n (Tick m) = refl
  refusal_same n (Reading j x) = refl
  refusal_same n (Log level logger said) = refl
  refusal_same n (Line c line) = refl

  module _ (action : Action) (shared : is_shared a action ≡ true) (x y : List ℕ) (short : ltb (length x) 65536 ≡ ltb (length y) 65536) where
    declined_same : in_range s ≡ true → in_range t ≡ true → declined s.sheet s (call_of action x) ≡ declined s.sheet t (call_of action y)
    unfolding declined
    declined_same h k = rw (h, k, short, rows_same action shared)

    -- with two outputs of which both are too short or none is
    pub step_alike : in_range s ≡ true → in_range t ≡ true
        → AlikeFor a (step s (call_of action x)).next (step t (call_of action y)).next × (told_to a (step s (call_of action x)).sent ≡ told_to a (step t (call_of action y)).sent)
    unfolding outcome
    step_alike h k = subst (λ n. Both (outcome s.sheet s action (declined s.sheet s (call_of action x))) (outcome s.sheet t action n)) (declined_same h k) (go (declined s.sheet s (call_of action x)) refl)
      where
        Both : Effect → Effect → Type 0
        Both v w = AlikeFor a v.next w.next × (told_to a v.sent ≡ told_to a w.sent)

        go : (n : ℕ) → declined s.sheet s (call_of action x) ≡ n → Both (outcome s.sheet s action n) (outcome s.sheet t action n)
        go zero e = let q = perform_alike action shared (accepted s (call_of action x) e).fits in (q.states, q.told)
        go (suc n) e = (state_alike, ap (told_to a) (refusal_same (suc n) action))
