-- The clock never goes back, and every report and log entry shows the clock at the end of its call.
use Prim.Native.Nat.{ℕ, suc, ◌/◌, ◌%◌, ◌≤◌}
use native.Mathlib.Omega.{arith}
use mathlib.Core.Path.{◌≡◌, refl, ap, sym, ◌∙◌, subst}
use mathlib.Core.Bool.{Bool, true, false, cond, not, ◌&&◌, ◌||◌, true≢false}
use mathlib.Core.List.{List, [], ◌∷◌, ◌++◌, map}
use Rattle.std.specs.Prelude.{Some}
use lib.Dec.{eqb, leb, ltb}
use lib.ListN.{length}
use borrow.Author.Tests.{leb-true, le-leb}
use Rattle.output.specs.Text.{text}
use Rattle.output.specs.Read.{in_time}
use Rattle.output.proofs.ReadBack.{times}
use Rattle.message.specs.Message.{Message}
use Rattle.message.specs.Delivery.{Delivery, to}
use Rattle.line.specs.Line.{message, parse, WellFormed}
use Rattle.value.specs.declared.Sample.{Sample}
use Rattle.machine.specs.declared.Sensor.{Sensor}
use Rattle.machine.specs.declared.Sheet.{Sheet}
use Rattle.machine.specs.declared.State.{State}
use Rattle.machine.specs.declared.Cause.{Cause}
use Rattle.machine.specs.declared.Request.{Request}
use Rattle.machine.specs.declared.Request.TheVariants.{ClientList, Halt, Help, LogLevel, Restart, SensorList, SensorSampling, SensorValue, VersionList, Watchdog}
use Rattle.machine.specs.Places.{Each, is_zero}
use Rattle.machine.specs.Sheet.{sensor_of}
use Rattle.machine.specs.State.{present, connected, pair_at, with_clock, with_reading, start_level}
use Rattle.machine.specs.Range.{is_none}
use Rattle.machine.specs.Opening.{Start}
use Rattle.machine.specs.Messages
use Rattle.machine.specs.Report.{Work, due_at, pair_sends, visit}
use Rattle.machine.specs.Requests.{Asked, Nothing, NotMessage, Reply, Unknown, Asks, asked, listed, asked_places, help_names, addresses, strategy_asked, sampled_sends, sampling, end_connections, answer}
use Rattle.machine.specs.Declined.{Action, Connect, Disconnect, Tick, Reading, Log, Line, Call, tick_fits, action_declined, line_refusal, refusal}
use Rattle.machine.specs.Machine.{connect_sends, entries, Effect, perform, step}
use Rattle.machine.specs.TwoDevices.{after, packets_of, connects, lines_to, lines_of, sent_to, without_end, clock_by, clock_of}
use Rattle.machine.specs.Tells.{shows_clock, clock_in, line_clock, ClockShown}
use Rattle.machine.proofs.TestLaws.{and_true, cond_either, fitted}
use Rattle.machine.proofs.PlacesLaws.{each_append, each_from, each_gather, each_one, each_map, each_of, each_weaker}
use Rattle.machine.proofs.RangeLaws.{range_out}
use Rattle.machine.proofs.StepLaws.{by_cases, accepted, connect_each, by_superseding, by_asking}
use Rattle.machine.proofs.KeptInRange.{after_in_range}
use Rattle.machine.proofs.Sent.{sent_well_formed}
use Rattle.machine.proofs.ListLaws.{clock_is, sent_packets}
use Rattle.machine.proofs.HeardLaws.{each_to}
use Rattle.machine.proofs.ArchiveLaws.{lines_packed}
use Rattle.machine.proofs.TellsLaws.{lines_read}

-- a message that shows a clock shows t
abbrev Timed : ℕ → Message → Type 0
Timed t m = shows_clock (message m) ≡ true → clock_in (message m) ≡ Some t

-- each of some deliveries
abbrev AllTimed : ℕ → List Delivery → Type 0
AllTimed t ds = Each (λ (d : Delivery). Timed t d.message) ds

-- one that shows none
untimed : (t : ℕ) (m : Message) → shows_clock (message m) ≡ false → Timed t m
untimed t m h e = absurd (true≢false (sym e ∙ h))

-- one whose kind or name says so
silent : {A : Type 0} → false ≡ true → A
silent e = absurd (true≢false (sym e))

where_timed : (t : ℕ) (is : ℕ → Bool) (m : Message) → Timed t m → AllTimed t (Messages.to_where is m)
unfolding Messages.to_where
where_timed t is m h = each_gather (λ (d : Delivery). Timed t d.message) _ 8 (λ c l. each_one (λ (d : Delivery). Timed t d.message) (is c) (to c m) (λ _. h))

module _ (t : ℕ) (fits : t ≤ 9999999999999) where
  entry_timed : (level : ℕ) (logger said : List ℕ) → Timed t (Messages.log_entry level t logger said)
  entry_timed level logger said _ = times.back t (le-leb t 9999999999999 fits)

  report_timed : (n : Sensor) (x : Sample) → Timed t (Messages.report t n x)
  unfolding Messages.report
  report_timed n x _ = times.back t (le-leb t 9999999999999 fits)

connect_timed : (t : ℕ) (sheet : Sheet) (s : State) (c : ℕ) (address : List ℕ) → AllTimed t (connect_sends sheet s c address)
connect_timed t sheet s c address = connect_each (λ (d : Delivery). Timed t d.message) sheet s c address (λ _ _. silent) silent silent
    (where_timed t (λ k. connected s k && not (eqb k c)) (Messages.client_connected address) silent)

-- Answers.

module _ (t : ℕ) (sheet : Sheet) (s : State) (c : ℕ) (m : Message) where
  counted_timed : {A : Type 0} (f : A → Message) (xs : List A) → ((x : A) → shows_clock (message (f x)) ≡ false) → AllTimed t (Messages.counted_answer c m (map f xs))
  unfolding Messages.counted_answer
  counted_timed f xs h = each_append (λ (d : Delivery). Timed t d.message) (map (to c) (map f xs)) _
      (each_map (λ (d : Delivery). Timed t d.message) (to c) (map f xs) (each_of (Timed t) f xs (λ x. untimed t (f x) (h x)))) (silent, tt)

  ending_timed : (why : List ℕ) (halted : Bool) (level : ℕ) → AllTimed t (end_connections s c m why halted level).sent
  ending_timed why halted level = (silent, where_timed t (connected s) (Messages.disconnect why) (silent))

module _ (sheet : Sheet) (s : State) (fits : s.clock ≤ 9999999999999) where
  sampling_timed : (c : ℕ) (m : Message) → AllTimed s.clock (sampling sheet s c m).sent
  unfolding sampling sampled_sends Messages.sampling_reply
  sampling_timed c m = cond_either (λ (w : Work). AllTimed s.clock w.sent) (eqb (length m.args) 1) _ _
      (silent, tt) (
        silent,
        cond_either (AllTimed s.clock) (is_none (strategy_asked sheet m)) [] _ tt
            (each_of (λ (d : Delivery). Timed s.clock d.message) (λ j. to c (Messages.report_of sheet s j)) (listed sheet m) (λ j. report_timed s.clock fits (sensor_of sheet j) (present s j))),
      )

  answer_timed : (c : ℕ) (m : Message) (r : Request) → AllTimed s.clock (answer sheet s c r m).sent
  unfolding answer Messages.sensor_inform Messages.value_inform
  answer_timed c m ClientList = counted_timed s.clock sheet s c m (Messages.client_inform m.id) (addresses s) (λ x. refl)
  answer_timed c m Halt = ending_timed s.clock sheet s c m (text "Device halting.") true s.level
  answer_timed c m Help = counted_timed s.clock sheet s c m (Messages.help_inform m.id) (help_names sheet.profile m) (λ x. refl)
  answer_timed c m LogLevel = (silent, tt)
  answer_timed c m Restart = ending_timed s.clock sheet s c m (text "Device restarting.") false start_level
  answer_timed c m SensorList = counted_timed s.clock sheet s c m (λ j. Messages.sensor_inform m.id (sensor_of sheet j)) (asked_places sheet m) (λ x. refl)
  answer_timed c m SensorSampling = sampling_timed c m
  answer_timed c m SensorValue = counted_timed s.clock sheet s c m (Messages.value_inform m.id s sheet) (asked_places sheet m) (λ x. refl)
  answer_timed c m VersionList = counted_timed s.clock sheet s c m (Messages.version_inform m.id) (Messages.protocol_args sheet.profile ∷ Messages.device_args sheet ∷ []) (λ x. refl)
  answer_timed c m Watchdog = (silent, tt)

  visit_timed : (cause : Cause) → AllTimed s.clock (visit sheet s cause).sent
  unfolding pair_sends
  visit_timed cause = each_gather (λ (d : Delivery). Timed s.clock d.message) (pair_sends sheet s cause) 256 (λ p l.
      each_one (λ (d : Delivery). Timed s.clock d.message) (due_at sheet s cause (p / 32) (p % 32) (pair_at s p)) _
      (λ t. report_timed s.clock fits (sensor_of sheet (p % 32)) (present s (p % 32))))

  entries_timed : (level : ℕ) (logger said : List ℕ) → AllTimed s.clock (entries s level logger said)
  unfolding entries
  entries_timed level logger said = cond_either (AllTimed s.clock) (leb level s.level) _ []
      (where_timed s.clock (connected s) (Messages.log_entry level s.clock logger said) (entry_timed s.clock fits level logger said)) tt

  refusal_timed : (n : ℕ) (action : Action) → AllTimed s.clock (refusal s n action)
  unfolding refusal line_refusal
  refusal_timed n (Connect c address) = tt
  refusal_timed n (Disconnect c) = tt
  refusal_timed n (Tick t) = tt
  refusal_timed n (Reading j r) = tt
  refusal_timed n (Log level logger said) = tt
  refusal_timed n (Line c said) = cond_either (AllTimed s.clock) (ltb n 12 || ltb 23 n) [] _ tt (go (asked said))
    where
      go : (w : Asked) → AllTimed s.clock (line_refusal s.clock c n w)
      go Nothing = tt
      go NotMessage = (entry_timed s.clock fits 2 (text "katcp") (Messages.refusal_text n), tt)
      go Reply = (entry_timed s.clock fits 2 (text "katcp") (Messages.refusal_text n), tt)
      go (Unknown m) = (silent, tt)
      go (Asks r m) = (silent, tt)

-- Calls.

module _ (s : State) (fits : s.clock ≤ 9999999999999) where
  perform_timed : (action : Action) → action_declined s.sheet s action ≡ 0 → AllTimed (clock_by action s.clock) (perform s.sheet s action).sent
  unfolding perform action_declined tick_fits with_reading
  perform_timed (Connect c address) d = connect_timed s.clock s.sheet s c address
  perform_timed (Disconnect c) d = tt
  perform_timed (Tick t) d = let q = and_true (leb s.clock t) (in_time t) (fitted (leb s.clock t && in_time t) 8 0 (omega arith) d).0 in
      visit_timed s.sheet (with_clock s t) (leb-true t 9999999999999 q.1) _
  perform_timed (Reading j r) d = by_superseding (λ (w : Work). AllTimed s.clock w.sent) s.sheet s j r (λ _. visit_timed s.sheet (with_reading s j _) fits _) (λ _. tt)
  perform_timed (Log level logger said) d = entries_timed s.sheet s fits level logger said
  perform_timed (Line c said) d = by_asking (λ (w : Work). AllTimed s.clock w.sent) s c said d tt (λ r m k. answer_timed s.sheet s fits c m r)

  -- a tick that is carried out does not go back
  clock_on : (action : Action) → action_declined s.sheet s action ≡ 0 → s.clock ≤ clock_by action s.clock
  unfolding action_declined tick_fits
  clock_on (Connect c address) d = omega arith
  clock_on (Disconnect c) d = omega arith
  clock_on (Tick t) d = leb-true s.clock t (and_true (leb s.clock t) (in_time t) (fitted (leb s.clock t && in_time t) 8 0 (omega arith) d).0).0
  clock_on (Reading j r) d = omega arith
  clock_on (Log level logger said) d = omega arith
  clock_on (Line c said) d = omega arith

module _ (start : Start) where
  clock_most : (h : List Call) → (after start h).clock ≤ 9999999999999
  clock_most h = (range_out (after start h) (after_in_range start h)).clock_in_lem

  sent_timed : (h : List Call) (call : Call) → AllTimed (clock_of start (call ∷ h)) (step (after start h) call).sent
  unfolding clock_of
  sent_timed h call = by_cases (λ (e : Effect). AllTimed (cond (is_zero e.number) (clock_by call.action (clock_of start h)) (clock_of start h)) e.sent) (after start h) call
      (λ z. subst (λ t. AllTimed (clock_by call.action t) (perform (after start h).sheet (after start h) call.action).sent) (clock_is start h)
      (perform_timed (after start h) (clock_most h) call.action (accepted (after start h) call z).fits))
      (λ n _. subst (λ t. AllTimed t (refusal (after start h) (suc n) call.action)) (clock_is start h) (refusal_timed (after start h).sheet (after start h) (clock_most h) (suc n) call.action))

  clock_step : (h : List Call) (call : Call) → clock_of start h ≤ clock_of start (call ∷ h)
  unfolding clock_of
  clock_step h call = by_cases (λ (e : Effect). clock_of start h ≤ cond (is_zero e.number) (clock_by call.action (clock_of start h)) (clock_of start h)) (after start h) call
      (λ z. subst (λ t. t ≤ clock_by call.action t) (clock_is start h) (clock_on (after start h) (clock_most h) call.action (accepted (after start h) call z).fits))
      (λ n _. omega arith)

  never_back : (later h : List Call) → clock_of start h ≤ clock_of start (later ++ h)
  never_back [] h = omega arith
  never_back (call ∷ later) h = omega (arith, never_back later h, clock_step (later ++ h) call)

  -- Lines.

  shown : (a : ℕ) (h : List Call) (call : Call) → Each (λ l. shows_clock (parse (without_end l)) ≡ true → line_clock l ≡ Some (clock_of start (call ∷ h))) (lines_to a (packets_of start h call))
  shown a h call = let t = clock_of start (call ∷ h) in let ds = (step (after start h) call).sent in
      subst (Each (λ l. shows_clock (parse (without_end l)) ≡ true → line_clock l ≡ Some t)) (sym (ap (lines_to a) (sent_packets start a h call) ∙ lines_packed a ds))
      (lines_read (λ p. shows_clock p ≡ true → clock_in p ≡ Some t) (sent_to a ds) (each_to WellFormed a ds (sent_well_formed (after start h) call)) (each_to (Timed t) a ds (sent_timed h call)))

  -- a line that shows a clock shows one that is not later than now
  abbrev Not-later : ℕ → List ℕ → Type 0
  Not-later now l = shows_clock (parse (without_end l)) ≡ true → (t : ℕ) × ((line_clock l ≡ Some t) × (t ≤ now))

  at_least : (a : ℕ) (h : List Call) → Each (Not-later (clock_of start h)) (lines_of start a h)
  unfolding lines_of
  at_least a [] = tt
  at_least a (call ∷ h) = let now = clock_of start (call ∷ h) in
      let own = each_weaker (λ l. shows_clock (parse (without_end l)) ≡ true → line_clock l ≡ Some now) (Not-later now) (λ l f e. (now, (f e, omega arith))) (lines_to a (packets_of start h call)) (shown a h call) in
      cond_either (Each (Not-later now)) (connects start a h call) _ _ (each_from (Not-later now) _ _ own)
      (each_append (Not-later now) (lines_of start a h) _
      (each_weaker (Not-later (clock_of start h)) (Not-later now) (λ l f e. let k = f e in (k.0, (k.1.0, omega (arith, k.1.1, clock_step h call)))) (lines_of start a h) (at_least a h)) own)

-- the clocks of a file
pub clock_shown : ClockShown
clock_shown = record { never_back = never_back; shown = shown; at_least = at_least }
