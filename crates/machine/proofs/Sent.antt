-- All that a call sends: to clients below 8, every message well-formed, and together at most 65,536 bytes.
use Prim.Native.Nat.{ℕ, suc, ◌/◌, ◌%◌, ◌≤◌, ◌<◌}
use native.Mathlib.Omega.{arith}
use mathlib.Core.Path.{◌≡◌, refl}
use mathlib.Core.Bool.{Bool, true, false, cond, not, ◌&&◌, ◌||◌}
use mathlib.Core.List.{List, [], ◌∷◌, ◌++◌, map}
use lib.Dec.{eqb, leb, ltb}
use lib.ListN.{length, length-append}
use borrow.Author.Tests.{leb-true, ltb-false}
use Rattle.output.specs.Text.{text, all}
use Rattle.output.specs.Read.{in_time}
use Rattle.message.specs.Message.{Message, write}
use Rattle.message.specs.Delivery.{Delivery, to, packet, Short}
use Rattle.line.specs.Line.{message, parse, WellFormed}
use Rattle.line.proofs.ParsedHead.{parsed_head}
use Rattle.line.proofs.ReadBack.{read_back}
use Rattle.machine.specs.declared.Stored.{Stored}
use Rattle.machine.specs.declared.Sheet.{Sheet}
use Rattle.machine.specs.declared.State.{State}
use Rattle.machine.specs.declared.Cause.{Cause}
use Rattle.machine.specs.declared.Cause.TheVariants.{Tick as Ticked, Reading as Read}
use Rattle.machine.specs.Places.{gather, one_if, Each}
use Rattle.machine.specs.Sheet.{single, last_client, sensor_of, graphic, name_byte, text_fits}
use Rattle.machine.specs.State.{present, connected, pair_at, with_clock, with_reading}
use Rattle.machine.specs.Range.{sample_ok, in_range}
use Rattle.machine.specs.Messages.{client_connected, displaced, log_entry, to_all}
use Rattle.machine.specs.Report.{due_at, pair_sends, visit, Work}
use Rattle.machine.specs.Requests.{Asked, Nothing, NotMessage, Reply, Unknown, Asks, asked}
use Rattle.machine.specs.Declined.{Action, Connect, Disconnect, Tick, Reading, Log, Line, Call, above_last, client_declined, connect_refused, address_fits, tick_fits, entry_fits, entry_byte, line_declined, action_declined, declined, line_refusal, refusal}
use Rattle.machine.specs.Machine.{Effect, stored_given, greeting, connect_sends, entries, perform, step}
use Rattle.machine.specs.Claims.{Fits, SentReadsBack, SentToClients}
use Rattle.machine.proofs.TestLaws.{and_true, or_false, cond_either, fitted}
use Rattle.machine.proofs.PlacesLaws.{each_gather, each_one, each_weaker, gather-length}
use Rattle.machine.proofs.StateLaws.{due_below}
use Rattle.machine.proofs.SheetLaws.{Sensors}
use Rattle.machine.proofs.RangeLaws.{InRange, range_out, sensors_of}
use Rattle.machine.proofs.StepLaws.{by_cases, accepted, declined_in_range, client_fits, last_below, connect_each, by_superseding, asks_is, unknown_is, by_asking}
use Rattle.machine.proofs.SampleRange.{given_fits, Reportable, reportable_tick, reportable_reading}
use Rattle.machine.proofs.LineLengths.{Sound}
use Rattle.machine.proofs.DeliveryLengths.{Served, served, length-line, Sendable, sendable, nothing_sent, one_sent, one-length, where_length, served_where}
use Rattle.machine.proofs.SentSizes.{sound_protocol, sound_device, sound_newcomer, sound_disconnect, sound_entry, sound_report, sound_refusal, sound_refusal_entry}
use Rattle.machine.proofs.SentAnswers.{titles_short, answer_sent}

-- Reports of a visit.

module _ (s : State) (cause : Cause) (r : Sensors s.sheet) (reports : Reportable s) where
  pair_served : (p : ℕ) → p < 256 → Each (Served 200) (pair_sends s.sheet s cause p)
  unfolding pair_sends
  pair_served p h = each_one (Served 200) (due_at s.sheet s cause (p / 32) (p % 32) (pair_at s p)) _ (λ e.
      let l = due_below s.sheet s cause (p / 32) (p % 32) (pair_at s p) e in
      served (omega arith) (sound_report s.clock (sensor_of s.sheet (p % 32)) (present s (p % 32)) reports.clock_fits (r.sensor_is (p % 32) l) (reports.present_fits (p % 32) l)))

  visit_sent : Sendable (visit s.sheet s cause).sent
  unfolding pair_sends
  visit_sent = sendable 256 200 (gather (pair_sends s.sheet s cause) 256) (omega arith) (omega arith)
      (gather-length (pair_sends s.sheet s cause) 1 256 (λ p. one-length (due_at s.sheet s cause (p / 32) (p % 32) _) _))
      (each_gather (Served 200) (pair_sends s.sheet s cause) 256 pair_served)

-- A call that is carried out.

text_most : (least most : ℕ) (is : ℕ → Bool) (t : List ℕ) → text_fits least most is t ≡ true → length t ≤ most
unfolding text_fits
text_most least most is t h = leb-true (length t) most (and_true (leb (length t) most) (all is t) (and_true (leb least (length t)) _ h).1).0

-- the length of an address that fits
pub address_most : (address : List ℕ) → address_fits address ≡ true → length address ≤ 48
unfolding address_fits
address_most address h = text_most 1 48 graphic address h

entry_most : (level : ℕ) (logger said : List ℕ) → entry_fits level logger said ≡ true → (length logger ≤ 32) × (length said ≤ 256)
unfolding entry_fits
entry_most level logger said h =
    let a = and_true (leb 1 level && leb level 6) _ h in
    let b = and_true (text_fits 1 32 name_byte logger) (text_fits 0 256 entry_byte said) a.1 in
    (text_most 1 32 name_byte logger b.0, text_most 0 256 entry_byte said b.1)

connect_length : (sheet : Sheet) (s : State) (c : ℕ) (address : List ℕ) → length (connect_sends sheet s c address) ≤ 10
unfolding connect_sends
connect_length sheet s c address = cond_either (λ (ds : List Delivery). length ds ≤ 10) (single sheet.profile) _ _
    (omega (arith, length-append (one_if (connected s c) (to c (displaced address))) (greeting sheet c), one-length (connected s c) (to c (displaced address))))
    (omega (arith, where_length (λ k. connected s k && not (eqb k c)) (client_connected address)))

module _ (s : State) (g : InRange s) where
  connect_sent : (c : ℕ) (address : List ℕ) → action_declined s.sheet s (Connect c address) ≡ 0 → Sendable (connect_sends s.sheet s c address)
  unfolding action_declined
  connect_sent c address h =
      let a = client_fits s.sheet.profile (connect_refused s.sheet.profile (connected s c)) c _ h in
      let most = address_most address (fitted (address_fits address) 7 0 (omega arith) a.1.1).0 in
      let t = titles_short s g in
      sendable 10 1300 (connect_sends s.sheet s c address) (omega arith) (omega arith) (connect_length s.sheet s c address)
      (connect_each (Served 1300) s.sheet s c address
      (λ _ _. served a.0 (sound_disconnect (text "New client connected from " ++ address) (omega (arith, length-append (text "New client connected from ") address, most))))
      (served a.0 (sound_protocol s.sheet.profile)) (served a.0 (sound_device s.sheet t.0 t.1))
      (served_where 1300 (λ k. connected s k && not (eqb k c)) (client_connected address) (sound_newcomer address most)))

  tick_sent : (t : ℕ) → action_declined s.sheet s (Tick t) ≡ 0 → Sendable (visit s.sheet (with_clock s t) Ticked).sent
  unfolding action_declined tick_fits
  tick_sent t h =
      let a = fitted (leb s.clock t && in_time t) 8 0 (omega arith) h in
      visit_sent (with_clock s t) Ticked (sensors_of s g) (reportable_tick s g t (leb-true t 9999999999999 (and_true (leb s.clock t) (in_time t) a.0).1))

  reading_sent : (j : ℕ) (x : Stored) → sample_ok (sensor_of s.sheet j) x.sample ≡ true → Sendable (visit s.sheet (with_reading s j x) (Read j)).sent
  unfolding with_reading
  reading_sent j x h = visit_sent (with_reading s j x) (Read j) (sensors_of s g) (reportable_reading s g j x h)

  log_sent : (level : ℕ) (logger said : List ℕ) → action_declined s.sheet s (Log level logger said) ≡ 0 → Sendable (entries s level logger said)
  unfolding action_declined entries
  log_sent level logger said h = go (leb level s.level)
    where
      entry : Message
      entry = log_entry level s.clock logger said

      most : (length logger ≤ 32) × (length said ≤ 256)
      most = entry_most level logger said (fitted (entry_fits level logger said) 11 0 (omega arith) h).0

      go : (b : Bool) → Sendable (cond b (to_all s entry) [])
      go true = sendable 8 1300 (to_all s entry) (omega arith) (omega arith) (where_length (connected s) entry)
          (served_where 1300 (connected s) entry (sound_entry level s.clock logger said g.clock_in_lem most.0 most.1))
      go false = nothing_sent

  perform_sent : (action : Action) → action_declined s.sheet s action ≡ 0 → Sendable (perform s.sheet s action).sent
  unfolding perform
  perform_sent (Connect c address) h = connect_sent c address h
  perform_sent (Disconnect c) h = nothing_sent
  perform_sent (Tick t) h = tick_sent t h
  perform_sent (Reading j r) h = by_superseding (λ (w : Work). Sendable w.sent) s.sheet s j r (λ _. reading_sent j (stored_given (sensor_of s.sheet j) r) (given_fits (sensor_of s.sheet j) r)) (λ _. nothing_sent)
  perform_sent (Log level logger said) h = log_sent level logger said h
  perform_sent (Line c line) h = by_asking (λ (w : Work). Sendable w.sent) s c line h nothing_sent
      (λ q m k. answer_sent s g c k.client m (parsed_head line m k.request.parsed) q k.arguments)

-- A call that is declined.

-- a row that did not decline, before the one that did
beyond : (b : Bool) (k m n : ℕ) → k < n → cond b k m ≡ n → m ≡ n
beyond true k m n h e = absurd (omega arith)
beyond false k m n h e = e

-- from row 12 on, the action's own rows decline
pub action_declines : (s : State) (call : Call) (n : ℕ) → declined s.sheet s call ≡ n → 12 ≤ n → action_declined s.sheet s call.action ≡ n
unfolding declined
action_declines s call n e h =
    beyond s.halted 3 _ n (omega arith) (beyond (ltb (length call.lent) 65536) 2 _ n (omega arith) (beyond (not (in_range s)) 1 _ n (omega arith) e))

-- and then the client is one that the profile has
pub client_within : (profile : ℕ) (refused : Bool) (c rest n : ℕ) → client_declined profile refused c rest ≡ n → 12 ≤ n → n ≤ 23 → c ≤ last_client profile
unfolding client_declined
client_within profile refused c rest n e h m = go (ltb (last_client profile) c) refl e
  where
    neither : (b : Bool) → cond b 32 5 ≡ n → ⊥
    neither true q = omega arith
    neither false q = omega arith

    go : (b : Bool) → ltb (last_client profile) c ≡ b → cond b (above_last profile) (cond refused 6 rest) ≡ n → c ≤ last_client profile
    go true l k = absurd (neither (single profile) k)
    go false l k = ltb-false (last_client profile) c l

line_refused : (s : State) → InRange s → (c n : ℕ) (line : List ℕ) → c < 8 → Sendable (line_refusal s.clock c n (asked line))
unfolding line_refusal
line_refused s g c n line h = go (asked line) refl
  where
    go : (q : Asked) → asked line ≡ q → Sendable (line_refusal s.clock c n q)
    go Nothing e = nothing_sent
    go NotMessage e = one_sent _ (served h (sound_refusal_entry s.clock n g.clock_in_lem))
    go Reply e = one_sent _ (served h (sound_refusal_entry s.clock n g.clock_in_lem))
    go (Unknown m) e = one_sent _ (served h (sound_refusal m (parsed_head line m (unknown_is line m e).parsed) n))
    go (Asks q m) e = one_sent _ (served h (sound_refusal m (parsed_head line m (asks_is line q m e).parsed) n))

refusal_sent : (s : State) (n : ℕ) (action : Action) → (12 ≤ n → (in_range s ≡ true) × (action_declined s.sheet s action ≡ n)) → Sendable (refusal s n action)
unfolding refusal action_declined
refusal_sent s n (Connect c address) h = nothing_sent
refusal_sent s n (Disconnect c) h = nothing_sent
refusal_sent s n (Tick t) h = nothing_sent
refusal_sent s n (Reading j r) h = nothing_sent
refusal_sent s n (Log level logger said) h = nothing_sent
refusal_sent s n (Line c line) h = go (ltb n 12 || ltb 23 n) refl
  where
    go : (b : Bool) → (ltb n 12 || ltb 23 n) ≡ b → Sendable (cond b [] (line_refusal s.clock c n (asked line)))
    go true e = nothing_sent
    go false e =
        let q = or_false (ltb n 12) (ltb 23 n) e in
        let k = ltb-false n 12 q.0 in
        let l = client_within s.sheet.profile (not (connected s c)) c (line_declined s.sheet (asked line)) n (h k).1 k (ltb-false 23 n q.1) in
        line_refused s (range_out s (h k).0) c n line (omega (arith, l, last_below s.sheet.profile))

-- Every call.

step_sent : (s : State) (call : Call) → Sendable (step s call).sent
step_sent s call = by_cases (λ (e : Effect). Sendable e.sent) s call
    (λ e. let a = accepted s call e in perform_sent s (range_out s a.in_range_lem) call.action a.fits)
    (λ n e. refusal_sent s (suc n) call.action (λ h. (declined_in_range s call n e (omega arith), action_declines s call (suc n) e h)))

pub sound_well_formed : (most : ℕ) (m : Message) → most ≤ 2048 → Sound most m → WellFormed m
sound_well_formed most m h s = let k = s.head in
    record { kind = k.kind; letters = k.letters; name = k.name; id = k.id; fits = omega (arith, s.length_most) }

pub sent_well_formed : (s : State) (call : Call) → Each (λ (d : Delivery). WellFormed d.message) (step s call).sent
sent_well_formed s call = each_weaker (Served 2048) (λ (d : Delivery). WellFormed d.message) (λ d h. sound_well_formed 2048 d.message (omega arith) h.sound) (step s call).sent (step_sent s call).all_served

pub sent_to_clients : SentToClients
sent_to_clients s call = each_weaker (Served 2048) (λ (d : Delivery). d.client < 8) (λ d h. h.client_below) (step s call).sent (step_sent s call).all_served

short : (ds : List Delivery) → Each (Served 2048) ds → Short (map packet ds)
short [] h = tt
short (d ∷ ds) h = (omega (arith, length-line d.message, h.0.sound.length_most), short ds h.1)

pub sent_short : (s : State) (call : Call) → Short (map packet (step s call).sent)
sent_short s call = short (step s call).sent (step_sent s call).all_served

pub fits : Fits
fits s call = ((step_sent s call).size, each_weaker (Served 2048) (λ (d : Delivery). length (write d.message) ≤ 2048) (λ d h. h.sound.length_most) (step s call).sent (step_sent s call).all_served)

pub sent_reads_back : SentReadsBack
sent_reads_back s call = each_weaker (λ (d : Delivery). WellFormed d.message) (λ (d : Delivery). WellFormed d.message × (parse (write d.message) ≡ message d.message))
    (λ d h. (h, read_back d.message h)) (step s call).sent (sent_well_formed s call)
