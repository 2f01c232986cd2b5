-- Every call keeps a state in range.
use Prim.Native.Nat.{ℕ, zero, suc, ◌-◌, ◌≤◌}
use native.Mathlib.Omega.{arith}
use mathlib.Core.Path.{◌≡◌, refl, sym, ◌∙◌}
use mathlib.Core.Bool.{Bool, true, false, cond, not, ◌&&◌, true≢false}
use mathlib.Core.List.{List, ◌++◌}
use lib.Dec.{eqb, leb}
use lib.ListN.{length, take, drop, replicate}
use lib.Seq.{take-append_seam, drop-append_seam}
use borrow.Author.Tests.{leb-true, leb-false}
use Rattle.output.specs.Text.{all}
use Rattle.output.specs.Read.{in_time}
use Rattle.message.specs.Message.{Message}
use Rattle.machine.specs.declared.State.{State}
use Rattle.machine.specs.declared.Request.{Request}
use Rattle.machine.specs.declared.Request.TheVariants.{ClientList, Halt, Help, LogLevel, Restart, SensorList, SensorSampling, SensorValue, VersionList, Watchdog}
use Rattle.machine.specs.declared.Cause.TheVariants.{Tick as Ticked, Reading as Read}
use Rattle.machine.specs.Sheet.{sensor_of, graphic, zero_byte, text_ok, text_fits, titles_none, titles_ok}
use Rattle.machine.specs.State.{connected, start_level, client_at, blank_client, with_clock, with_reading}
use Rattle.machine.specs.Range.{client_ok, no_clients, is_blank, in_range}
use Rattle.machine.specs.Report.{Work}
use Rattle.machine.specs.Requests.{argument, level_of, level_asked, listed, strategy_asked, sampling, answer}
use Rattle.machine.specs.Declined.{Action, Connect, Disconnect, Tick, Reading, Log, Line, Call, connect_refused, address_fits, tick_fits, sampling_declined, arguments_declined, action_declined}
use Rattle.machine.specs.Machine.{Effect, stored_given, perform, step}
use Rattle.machine.proofs.TestLaws.{and_true, and_in, or_true, passed, fitted, cond_cases}
use Rattle.machine.proofs.SampleRange.{given_fits}
use Rattle.machine.proofs.RangeLaws.{InRange, range_out, range_of, sensors_of}
use Rattle.machine.proofs.StepLaws.{by_cases, accepted, client_last, reading_fits, by_superseding, by_asking}
use Rattle.machine.proofs.SamplingLaws.{listed_below, setting_suits}
use Rattle.machine.proofs.StateRange.{clock_kept, level_kept, emptied_kept, reading_kept, client_kept, visit_kept, sampled_kept}

-- a device that is not halted is not the blank one
pub titled : (s : State) → InRange s → s.halted ≡ false → titles_ok s.sheet ≡ true
unfolding is_blank
titled s r h = or_true (titles_ok s.sheet ≡ true) (titles_ok s.sheet) (is_blank s) r.titles_in (λ t. t)
    (λ b. let x = and_true (titles_none s.sheet) _ b in
    let y = and_true (eqb s.sheet.count 0) _ x.1 in
    let p = and_true (eqb s.sheet.profile 0) _ y.1 in
    let z = and_true (no_clients s.clients) _ p.1 in
    let w = and_true s.halted _ z.1 in
    absurd (true≢false (sym w.0 ∙ h)))

-- What a call gives the state.

zeros_zero : (n : ℕ) → all zero_byte (replicate n 0) ≡ true
zeros_zero zero = refl
zeros_zero (suc n) = zeros_zero n

-- the client of an address that fits
connected_fits : (t : List ℕ) → address_fits t ≡ true → client_ok (client_at t) ≡ true
unfolding address_fits text_fits client_ok text_ok
connected_fits t h =
    let a = and_true (leb 1 (length t)) (leb (length t) 48 && all graphic t) h in
    let b = and_true (leb (length t) 48) (all graphic t) a.1 in
    and_in (leb 1 (length t)) _ a.0
    (and_in (leb (length t) 48) _ b.0
    (and_in (all graphic (take (length t) (t ++ replicate (48 - length t) 0))) (all zero_byte (drop (length t) (t ++ replicate (48 - length t) 0)))
    (rw (take-append_seam t (replicate (48 - length t) 0)) b.1) (rw (drop-append_seam t (replicate (48 - length t) 0)) (zeros_zero (48 - length t)))))

unconnected_fits : client_ok blank_client ≡ true
unfolding client_ok text_ok
unconnected_fits = refl

-- Requests.

module _ (s : State) (r : InRange s) (t : titles_ok s.sheet ≡ true) (c : ℕ) (m : Message) where
  level_asked_lem : arguments_declined s.sheet LogLevel m ≡ 0 → level_asked s m ≤ 7
  unfolding arguments_declined
  level_asked_lem e = go (eqb (length m.args) 0) e
    where
      go : (b : Bool) → ◌≡◌ {A = ℕ} (cond b 0 (cond (leb 8 (level_of (argument m 0))) 22 0)) 0 → cond b s.level (level_of (argument m 0)) ≤ 7
      go true q = r.level_in
      go false q = omega (arith, leb-false 8 (level_of (argument m 0)) (passed (leb 8 (level_of (argument m 0))) 22 0 (omega arith) q).0)

  sampling_kept : connected s c ≡ true → sampling_declined s.sheet m ≡ 0 → InRange (sampling s.sheet s c m).next
  unfolding sampling
  sampling_kept h e = cond_cases (λ (w : Work). InRange w.next) (eqb (length m.args) 1) _ _ (λ q. r)
      (λ q. sampled_kept s r t c (listed s.sheet m) (strategy_asked s.sheet m) h (listed_below s.sheet m e) (setting_suits s.sheet (sensors_of s r) m e q))

  answer_kept : connected s c ≡ true → (q : Request) → arguments_declined s.sheet q m ≡ 0 → InRange (answer s.sheet s c q m).next
  unfolding answer arguments_declined
  answer_kept h ClientList e = r
  answer_kept h Halt e = emptied_kept s r t true s.level r.level_in
  answer_kept h Help e = r
  answer_kept h LogLevel e = level_kept s r t (level_asked s m) (level_asked_lem e)
  answer_kept h Restart e = emptied_kept s r t false start_level (omega arith)
  answer_kept h SensorList e = r
  answer_kept h SensorSampling e = sampling_kept h e
  answer_kept h SensorValue e = r
  answer_kept h VersionList e = r
  answer_kept h Watchdog e = r

-- Calls.

perform_kept : (s : State) → InRange s → titles_ok s.sheet ≡ true → (d : Action) → action_declined s.sheet s d ≡ 0 → InRange (perform s.sheet s d).next
unfolding perform action_declined tick_fits with_reading
perform_kept s r t (Connect c address) e = let a = client_last s.sheet.profile (connect_refused s.sheet.profile (connected s c)) c (cond (address_fits address) 0 7) e in
    client_kept s r t c (client_at address) a.0 (connected_fits address (fitted (address_fits address) 7 0 (omega arith) a.1.1).0)
perform_kept s r t (Disconnect c) e = client_kept s r t c blank_client (client_last s.sheet.profile (not (connected s c)) c 0 e).0 unconnected_fits
perform_kept s r t (Tick n) e =
    let a = and_true (leb s.clock n) (in_time n) (fitted (leb s.clock n && in_time n) 8 0 (omega arith) e).0 in
    visit_kept (with_clock s n) (clock_kept s r t n (leb-true s.clock n a.0) (leb-true n 9999999999999 a.1)) t Ticked
perform_kept s r t (Reading j g) e =
    let a = reading_fits s j g e in
    let n = sensor_of s.sheet j in
    by_superseding (λ (w : Work). InRange w.next) s.sheet s j g
    (λ _. visit_kept (with_reading s j (stored_given n g)) (reading_kept s r t j (stored_given n g) a.on_sheet (given_fits n g) a.not_ahead) t (Read j)) (λ _. r)
perform_kept s r t (Log level logger said) e = r
perform_kept s r t (Line c line) e = by_asking (λ (w : Work). InRange w.next) s c line e r (λ q m k. answer_kept s r t c m k.there q k.arguments)

pub step_kept : (s : State) → in_range s ≡ true → (call : Call) → in_range (step s call).next ≡ true
step_kept s h call = by_cases (λ (e : Effect). in_range e.next ≡ true) s call
    (λ q. let a = accepted s call q in let r = range_out s h in
    range_of (perform s.sheet s call.action).next (perform_kept s r (titled s r a.running) call.action a.fits))
    (λ n q. h)
