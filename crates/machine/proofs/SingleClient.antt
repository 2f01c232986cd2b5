-- Document 02, (m): units of profile 1, and the two profiles side by side.
use Prim.Native.Nat.{ℕ, suc, ◌/◌, ◌%◌, ◌≤◌, ◌<◌}
use native.Mathlib.Omega.{arith}
use mathlib.Core.Path.{◌≡◌, refl, ap, sym, ◌∙◌, subst₂}
use mathlib.Core.Bool.{Bool, true, false, cond, not, ◌&&◌, ◌||◌, true≢false}
use mathlib.Core.List.{List, [], ◌∷◌, ◌++◌, map}
use Rattle.std.specs.Prelude.{Some}
use Rattle.std.proofs.lemmas.Option.{same_Some}
use lib.Dec.{eqb, leb, ltb}
use lib.ListN.{get_or}
use borrow.Author.Tests.{lt-leb, lt-ltb, ltb-false}
use Rattle.output.specs.Text.{text}
use Rattle.message.specs.Message.{Message, line}
use Rattle.message.specs.Delivery.{Delivery, to}
use Rattle.machine.specs.declared.Sheet.{Sheet}
use Rattle.machine.specs.declared.Opened.{Opened}
use Rattle.machine.specs.declared.State.{State}
use Rattle.machine.specs.declared.Cause.{Cause}
use Rattle.machine.specs.declared.Cause.TheVariants.{Tick as Ticked, Reading as Read}
use Rattle.machine.specs.declared.Request.{Request}
use Rattle.machine.specs.declared.Request.TheVariants.{ClientList, Help, VersionList}
use Rattle.machine.specs.Places.{one_if, only, from_first, is_zero, Each}
use Rattle.machine.specs.Sheet.{single, last_client, sensor_of, sheet_ok}
use Rattle.machine.specs.State.{no_client, connected, pair_at, pair_of, no_subscription, with_clock, with_reading, with_client, client_at}
use Rattle.machine.specs.Opening.{Taken, broken, taken, sheet_at, Start, start_of, not_opened, accepted as opened_by, opened}
use Rattle.machine.specs.Messages.{report_of, log_entry, to_where, to_all, protocol_args, device_args, version_connect, client_connected, to_others, counted_answer, help_inform, version_inform}
use Rattle.machine.specs.Report.{Work, due_at, pair_sends, visit}
use Rattle.machine.specs.Requests.{asked, hidden, help_names, request_named, sends_only, answer}
use Rattle.machine.specs.Declined.{Action, Connect, Disconnect, Tick, Reading, Log, Line, Call, call_of, connect_refused, address_fits, client_declined, count_fits, arguments_declined, line_declined, action_declined, line_refusal, refusal}
use Rattle.machine.specs.Machine.{Effect, outcome, stored_given, greeting, connect_sends, entries, perform, step}
use Rattle.machine.specs.TwoDevices.{after, sheet_of, packets_of, is_connect, connects, connected_at_end, lines_to, lines_of, greets, sent_to, messages_of}
use Rattle.machine.specs.SeveralNames.{Received, reply_alone, informed}
use Rattle.machine.specs.SingleClient.{client_named, OnSingle, silently, single_protocol, connected_as, gone, single_requests, SingleClient}
use Rattle.machine.proofs.TestLaws.{and_true, or_false, cond_either, cond_cases, cond_true, cond_ap, none_some}
use Rattle.machine.proofs.PlacesLaws.{each_gather, each_one, each_weaker}
use Rattle.machine.proofs.StateLaws.{pair_of_client}
use Rattle.machine.proofs.RangeLaws.{InRange, range_out}
use Rattle.machine.proofs.StepLaws.{by_cases, accepted, own_rows, client_last, by_superseding, connect_each, by_ending, by_asking, connect_only}
use Rattle.machine.proofs.OpenedRange.{opened_cases}
use Rattle.machine.proofs.KeptInRange.{after_in_range}
use Rattle.machine.proofs.Sent.{action_declines, client_within}
use Rattle.machine.proofs.ListLaws.{sheet_is, sent_packets, connected_is}
use Rattle.machine.proofs.ArchiveLaws.{lines_packed, lines_are}
use Rattle.machine.proofs.MomentLaws.{still_on}
use Rattle.machine.proofs.OthersCalls.{To, answer_to, refusal_to}
use Rattle.machine.proofs.SeveralNames.{by_row, alone, all_informed}

-- Opening.

neither : (profile : ℕ) (bytes : List ℕ) → 1 < profile → opened (start_of profile bytes) ≡ not_opened 31
unfolding opened
neither profile bytes h = rw (lt-leb profile 1 h)

either : (bytes : List ℕ) → (opened (start_of 1 bytes)).number ≡ (opened (start_of 0 bytes)).number
unfolding opened
either bytes = go (sheet_at bytes)
  where
    go : (t : Taken Sheet) → (opened_by 1 t).number ≡ (opened_by 0 t).number
    go broken = refl
    go (taken sheet []) = cond_ap (λ (o : Opened). o.number) (sheet_ok sheet) _ _ ∙ sym (cond_ap (λ (o : Opened). o.number) (sheet_ok sheet) _ _)
    go (taken sheet (b ∷ rest)) = refl

profile_kept : (start : Start) (h : List Call) → (after start h).sheet.profile ≡ cond (eqb (opened start).number 0) start.profile 0
profile_kept start h = ap (λ (sheet : Sheet). sheet.profile) (sheet_is start h)
    ∙ opened_cases (λ (o : Opened). o.state.sheet.profile ≡ cond (eqb o.number 0) start.profile 0) start (λ _ _ _. refl) (λ n z. rw z)

-- the only client of profile 1
zero_only : (profile c : ℕ) → profile ≡ 1 → c ≤ last_client profile → c ≡ 0
zero_only profile c e = rw e (λ l. omega arith)

client_zero : (start : Start) (h : List Call) (c : ℕ) → (after start h).sheet.profile ≡ 1 → c < 8 → connected (after start h) c ≡ true → c ≡ 0
client_zero start h c e l there = zero_only (after start h).sheet.profile c e ((range_out (after start h) (after_in_range start h)).last_in c l there)

-- Whom a call serves: under either profile, no client above the last.

module _ (s : State) where
  abbrev Within : Delivery → Type 0
  Within d = d.client ≤ last_client s.sheet.profile

  sender_within : (c : ℕ) → c ≤ last_client s.sheet.profile → (ds : List Delivery) → Each (To c) ds → Each Within ds
  sender_within c l = each_weaker (To c) Within (λ d e. rw e l)

  module _ (g : InRange s) where
    where_within : (is : ℕ → Bool) → ((c : ℕ) → is c ≡ true → connected s c ≡ true) → (m : Message) → Each Within (to_where is m)
    unfolding to_where
    where_within is there m = each_gather Within (λ c. one_if (is c) (to c m)) 8 (λ c h. each_one Within (is c) (to c m) (λ e. g.last_in c h (there c e)))

    all_within : (m : Message) → Each Within (to_all s m)
    all_within m = where_within (connected s) (λ c e. e) m

    -- from a state with the same clients
    visit_within : (t : State) (cause : Cause) → t.clients ≡ s.clients → Each Within (visit s.sheet t cause).sent
    unfolding pair_sends due_at
    visit_within t cause e = each_gather Within (pair_sends s.sheet t cause) 256 (λ p h. each_one Within (due_at s.sheet t cause (p / 32) (p % 32) (pair_at t p)) (to (p / 32) (report_of s.sheet t (p % 32)))
        (λ due. g.last_in (p / 32) (omega arith) (ap (λ ks. (get_or ks (p / 32) no_client).connected) (sym e) ∙ (and_true (connected t (p / 32)) _ due).0)))

    answer_within : (c : ℕ) (m : Message) → c ≤ last_client s.sheet.profile → (r : Request) → Each Within (answer s.sheet s c r m).sent
    unfolding answer
    answer_within c m l = by_ending (λ r. Each Within (answer s.sheet s c r m).sent) (l, all_within _) (l, all_within _) (λ r e. sender_within c l (answer s.sheet s c r m).sent (answer_to s c r m e))

    perform_within : (action : Action) → action_declined s.sheet s action ≡ 0 → Each Within (perform s.sheet s action).sent
    unfolding perform action_declined entries with_reading
    perform_within (Connect c address) h =
        let l = (client_last s.sheet.profile (connect_refused s.sheet.profile (connected s c)) c _ h).0 in
        connect_each Within s.sheet s c address (λ _ _. l) l l (where_within (λ k. connected s k && not (eqb k c)) (λ k e. (and_true (connected s k) _ e).0) (client_connected address))
    perform_within (Disconnect c) h = tt
    perform_within (Tick t) h = visit_within (with_clock s t) Ticked refl
    perform_within (Reading j r) h = by_superseding (λ (w : Work). Each Within w.sent) s.sheet s j r (λ _. visit_within (with_reading s j (stored_given (sensor_of s.sheet j) r)) (Read j) refl) (λ _. tt)
    perform_within (Log level logger said) h = cond_either (Each Within) (leb level s.level) _ [] (all_within (log_entry level s.clock logger said)) tt
    perform_within (Line c line) h = by_asking (λ (w : Work). Each Within w.sent) s c line h tt (λ r m q. answer_within c m (g.last_in c q.client q.there) r)

  refused_within : (n : ℕ) (action : Action) → (12 ≤ n → action_declined s.sheet s action ≡ n) → Each Within (refusal s n action)
  unfolding refusal action_declined
  refused_within n (Connect c address) h = tt
  refused_within n (Disconnect c) h = tt
  refused_within n (Tick t) h = tt
  refused_within n (Reading j r) h = tt
  refused_within n (Log level logger said) h = tt
  refused_within n (Line c line) h = go (ltb n 12 || ltb 23 n) refl (refusal_to s n c line)
    where
      go : (b : Bool) → (ltb n 12 || ltb 23 n) ≡ b → Each (To c) (cond b [] (line_refusal s.clock c n (asked line))) → Each Within (cond b [] (line_refusal s.clock c n (asked line)))
      go true e t = tt
      go false e t =
          let q = or_false (ltb n 12) (ltb 23 n) e in
          let k = ltb-false n 12 q.0 in
          sender_within c (client_within s.sheet.profile (not (connected s c)) c (line_declined s.sheet (asked line)) n (h k) k (ltb-false 23 n q.1)) (line_refusal s.clock c n (asked line)) t

  served_within : (call : Call) → Each Within (step s call).sent
  served_within call = by_cases (λ (e : Effect). Each Within e.sent) s call (λ z. let a = accepted s call z in perform_within (range_out s a.in_range_lem) call.action a.fits)
      (λ n e. refused_within (suc n) call.action (action_declines s call (suc n) e))

served_zero : (s : State) (call : Call) → s.sheet.profile ≡ 1 → Each (λ (d : Delivery). d.client ≡ 0) (step s call).sent
served_zero s call e = each_weaker (Within s) (To 0) (λ d l. zero_only s.sheet.profile d.client e l) (step s call).sent (served_within s call)

-- A client above 0.

above_zero : (s : State) (call : Call) (c : ℕ) → OnSingle s call.lent → client_named call.action ≡ Some c → 0 < c → step s call ≡ silently s 32
unfolding outcome action_declined client_declined refusal
above_zero s call c on named l = ap (outcome s.sheet s call.action) (own_rows s call on.in_range_lem on.room on.running) ∙ go call.action named
  where
    above : (k : ℕ) → Some k ≡ Some c → ltb 0 k ≡ true
    above k e = lt-ltb 0 k (omega (arith, same_Some k c e))

    go : (action : Action) → client_named action ≡ Some c → outcome s.sheet s action (action_declined s.sheet s action) ≡ silently s 32
    go (Connect k address) e = rw (on.single_client, above k e)
    go (Disconnect k) e = rw (on.single_client, above k e)
    go (Tick t) e = absurd (none_some c e)
    go (Reading j r) e = absurd (none_some c e)
    go (Log level logger said) e = absurd (none_some c e)
    go (Line k line) e = rw (on.single_client, above k e)

-- A connect of client 0.

-- no row before 7 declines it
connect_row : (profile : ℕ) (there : Bool) (rest : ℕ) → profile ≡ 1 → client_declined profile (connect_refused profile there) 0 rest ≡ rest
unfolding client_declined
connect_row profile true rest e = rw e
connect_row profile false rest e = rw e

-- what it sends
single_sends : (sheet : Sheet) (s : State) (address : List ℕ) → sheet.profile ≡ 1
    → connect_sends sheet s 0 address ≡ one_if (connected s 0) (to 0 (gone address)) ++ (to 0 (version_connect single_protocol) ∷ to 0 (version_connect (device_args sheet)) ∷ [])
unfolding connect_sends
single_sends sheet s address e = ap (λ p. cond (single p) (one_if (connected s 0) (to 0 (gone address)) ++ (to 0 (version_connect (protocol_args p)) ∷ to 0 (version_connect (device_args sheet)) ∷ [])) others) e
  where
    others : List Delivery
    others = greeting sheet 0 ++ to_others s 0 (client_connected address)

module _ (s : State) (address lent : List ℕ) (on : OnSingle s lent) where
  by_address : step s (call_of (Connect 0 address) lent) ≡ outcome s.sheet s (Connect 0 address) (cond (address_fits address) 0 7)
  unfolding action_declined
  by_address = ap (outcome s.sheet s (Connect 0 address)) (own_rows s (call_of (Connect 0 address) lent) on.in_range_lem on.room on.running ∙ connect_row s.sheet.profile (connected s 0) _ on.single_client)

  connects_zero : address_fits address ≡ true → step s (call_of (Connect 0 address) lent) ≡ connected_as s address (one_if (connected s 0) (to 0 (gone address)))
  unfolding outcome perform
  connects_zero fits = by_address ∙ rw fits (ap (λ ds. record { number = 0; sent = ds; next = with_client s 0 (client_at address) }) (single_sends s.sheet s address on.single_client))

  joins : connected s 0 ≡ false → address_fits address ≡ true → step s (call_of (Connect 0 address) lent) ≡ connected_as s address []
  joins there fits = connects_zero fits ∙ ap (λ b. connected_as s address (one_if b (to 0 (gone address)))) there

  displaces : connected s 0 ≡ true → address_fits address ≡ true → step s (call_of (Connect 0 address) lent) ≡ connected_as s address (to 0 (gone address) ∷ [])
  displaces there fits = connects_zero fits ∙ ap (λ b. connected_as s address (one_if b (to 0 (gone address)))) there

  stays : address_fits address ≡ false → step s (call_of (Connect 0 address) lent) ≡ silently s 7
  unfolding outcome refusal
  stays fits = by_address ∙ rw fits refl

forgets : (s : State) (address : List ℕ) (j : ℕ) → j < 32 → pair_of (with_client s 0 (client_at address)) 0 j ≡ no_subscription
forgets s address j h = pair_of_client s 0 j (omega arith) h 0 (client_at address)

-- Requests under profile 1.

-- the requests of profile 1
single_names : (profile : ℕ) (m : Message) → profile ≡ 1 → m.args ≡ [] → help_names profile m ≡ single_requests
unfolding help_names only hidden
single_names profile m e f = rw (e, f)

module _ (s : State) (c : ℕ) (line lent : List ℕ) (m : Message) (single_client : s.sheet.profile ≡ 1) where
  client_list : Received s c line lent ClientList m → step s (call_of (Line c line) lent) ≡ reply_alone s c m 14
  unfolding outcome line_declined hidden
  client_list q = by_row s c line lent ClientList m q 14 (rw single_client) ∙ alone s c line lent ClientList m q 14 refl

  help_on_it : Received s c line lent Help m → m.args ≡ text "client-list" ∷ [] → step s (call_of (Line c line) lent) ≡ reply_alone s c m 23
  unfolding outcome line_declined hidden count_fits arguments_declined request_named
  help_on_it q e = by_row s c line lent Help m q 23 (rw (e, single_client)) ∙ alone s c line lent Help m q 23 refl

  help : Received s c line lent Help m → m.args ≡ [] → step s (call_of (Line c line) lent) ≡ informed s c m (map (help_inform m.id) single_requests)
  unfolding outcome line_declined hidden count_fits arguments_declined answer
  help q e = by_row s c line lent Help m q 0 (rw e) ∙ all_informed s c line lent Help m q (map (help_inform m.id) single_requests)
      (ap (λ names. sends_only s (counted_answer c m (map (help_inform m.id) names))) (single_names s.sheet.profile m single_client e))

  version_list : Received s c line lent VersionList m → m.args ≡ [] → step s (call_of (Line c line) lent) ≡ informed s c m (map (version_inform m.id) (single_protocol ∷ device_args s.sheet ∷ []))
  unfolding outcome line_declined hidden count_fits arguments_declined answer
  version_list q e = by_row s c line lent VersionList m q 0 (rw e) ∙ all_informed s c line lent VersionList m q (map (version_inform m.id) (single_protocol ∷ device_args s.sheet ∷ []))
      (ap (λ p. sends_only s (counted_answer c m (map (version_inform m.id) (protocol_args p ∷ device_args s.sheet ∷ [])))) single_client)

-- The lines of a connection.

-- messages that begin with the two of a connect
abbrev Begin : ℕ → Sheet → List Message → Type 0
Begin profile sheet ms = (rest : List Message) × (ms ≡ version_connect (protocol_args profile) ∷ version_connect (device_args sheet) ∷ rest)

-- what a client is told from the greeting of its connect on
greeted : (sheet : Sheet) (s : State) (a c : ℕ) (address : List ℕ) → eqb c a ≡ true → Begin sheet.profile sheet (from_first greets (sent_to a (connect_sends sheet s c address)))
unfolding connect_sends sent_to from_first
greeted sheet s a c address e = go (single sheet.profile) (connected s c)
  where
    others : List Delivery
    others = to_others s c (client_connected address)

    go : (b there : Bool) → Begin sheet.profile sheet (from_first greets (sent_to a (cond b (one_if there (to c (gone address)) ++ greeting sheet c) (greeting sheet c ++ others))))
    go true true = ([], rw e)
    go true false = ([], rw e)
    go false there = (sent_to a others, rw e)

module _ (start : Start) where
  -- a device that is halted from the start
  halted_still : (opened start).state.halted ≡ true → (h : List Call) → (after start h).halted ≡ true
  unfolding after
  halted_still e [] = e
  halted_still e (call ∷ h) = by_cases (λ (f : Effect). f.next.halted ≡ true) (after start h) call
      (λ z. absurd (true≢false (sym (halted_still e h) ∙ (accepted (after start h) call z).running))) (λ n _. halted_still e h)

  -- one on which a call was carried out was opened
  profile_is : (h : List Call) → (after start h).halted ≡ false → (after start h).sheet.profile ≡ start.profile
  profile_is h e = ap (λ (sheet : Sheet). sheet.profile) (sheet_is start h) ∙ opened_cases (λ (o : Opened). (o.state.halted ≡ true → (after start h).halted ≡ true) → o.state.sheet.profile ≡ start.profile) start
      (λ _ _ _ _. refl) (λ n _ f. absurd (true≢false (sym (f refl) ∙ e))) (λ q. halted_still q h)

  connect_begins : (a : ℕ) (h : List Call) (call : Call) → connects start a h call ≡ true → Begin start.profile (sheet_of start) (from_first greets (sent_to a (step (after start h) call).sent))
  unfolding perform
  connect_begins a h call = by_cases (λ (e : Effect). (is_zero e.number && is_connect a call.action) ≡ true → Begin start.profile (sheet_of start) (from_first greets (sent_to a e.sent))) (after start h) call
      (λ z. connect_only (λ action. Begin start.profile (sheet_of start) (from_first greets (sent_to a (perform (after start h).sheet (after start h) action).sent))) a (λ c address e.
      subst₂ (λ profile sheet. Begin profile sheet (from_first greets (sent_to a (connect_sends (after start h).sheet (after start h) c address)))) (profile_is h (accepted (after start h) call z).running) (sheet_is start h)
      (greeted (after start h).sheet (after start h) a c address e)) call.action)
      (λ n _ e. absurd (true≢false (sym e)))

  messages_begin : (a : ℕ) (h : List Call) → connected_at_end start a h ≡ true → Begin start.profile (sheet_of start) (messages_of start a h)
  unfolding connected_at_end messages_of
  messages_begin a [] on = absurd (true≢false (sym on))
  messages_begin a (call ∷ h) on = let told = sent_to a (step (after start h) call).sent in
      cond_cases (Begin start.profile (sheet_of start)) (connects start a h call) (from_first greets told) (messages_of start a h ++ told) (connect_begins a h call)
      (λ e. let q = messages_begin a h (still_on start a call h e on) in (q.0 ++ told, ap (λ l. l ++ told) q.1))

  begins : (a : ℕ) (h : List Call) → connected_at_end start a h ≡ true
      → (rest : List (List ℕ)) × (lines_of start a h ≡ line (version_connect (protocol_args start.profile)) ∷ line (version_connect (device_args (sheet_of start))) ∷ rest)
  begins a h on = let q = messages_begin a h on in (map line q.0, lines_are start a h ∙ ap (map line) q.1)

-- a connect of client 0 while it is connected: the old client's message, and then those of the newcomer
displaced_first : (sheet : Sheet) (s : State) (address : List ℕ) → sheet.profile ≡ 1 → connected s 0 ≡ true
    → sent_to 0 (connect_sends sheet s 0 address) ≡ gone address ∷ from_first greets (sent_to 0 (connect_sends sheet s 0 address))
unfolding sent_to from_first
displaced_first sheet s address e there = rw (single_sends sheet s address e, there)

module _ (start : Start) (address lent : List ℕ) (h : List Call) where
  abbrev newcomer : Call
  newcomer = call_of (Connect 0 address) lent

  abbrev told : List Message
  told = sent_to 0 (step (after start h) newcomer).sent

  gone_first : (after start h).sheet.profile ≡ 1 → connected (after start h) 0 ≡ true → connects start 0 h newcomer ≡ true → told ≡ gone address ∷ from_first greets told
  unfolding perform
  gone_first e there = by_cases (λ (f : Effect). (is_zero f.number && true) ≡ true → sent_to 0 f.sent ≡ gone address ∷ from_first greets (sent_to 0 f.sent)) (after start h) newcomer
      (λ _ _. displaced_first (after start h).sheet (after start h) address e there) (λ n _ z. absurd (true≢false (sym z)))

  newcomer_lines : connects start 0 h newcomer ≡ true → lines_of start 0 (newcomer ∷ h) ≡ map line (from_first greets told)
  unfolding messages_of
  newcomer_lines q = lines_are start 0 (newcomer ∷ h) ∙ ap (map line) (cond_true (connects start 0 h newcomer) (from_first greets told) (messages_of start 0 h ++ told) q)

  ends : (after start h).sheet.profile ≡ 1 → connected_at_end start 0 h ≡ true → connects start 0 h newcomer ≡ true
      → lines_to 0 (packets_of start h newcomer) ≡ line (gone address) ∷ lines_of start 0 (newcomer ∷ h)
  ends e there q = ap (lines_to 0) (sent_packets start 0 h newcomer) ∙ (lines_packed 0 (step (after start h) newcomer).sent
      ∙ (ap (map line) (gone_first e (connected_is start 0 (omega arith) h ∙ there) q) ∙ ap (λ l. line (gone address) ∷ l) (sym (newcomer_lines q))))

-- document 02, (m)
pub single_client : SingleClient
single_client = record {
  neither = neither;
  either = either;
  profile_kept = profile_kept;
  client_zero = client_zero;
  served_zero = served_zero;
  above_zero = above_zero;
  joins = λ s address lent on. joins s address lent on;
  displaces = λ s address lent on. displaces s address lent on;
  forgets = forgets;
  stays = λ s address lent on. stays s address lent on;
  client_list = λ s c line lent m q e. client_list s c line lent m e q;
  help_on_it = λ s c line lent m q e. help_on_it s c line lent m e q;
  help = λ s c line lent m q e. help s c line lent m e q;
  version_list = λ s c line lent m q e. version_list s c line lent m e q;
  begins = λ start a h. begins start a h;
  ends = λ start address lent h. ends start address lent h;
}
