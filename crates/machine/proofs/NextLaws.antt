-- The state that a call leaves, by the few ways in which a state is written anew.
use Prim.Native.Nat.{ℕ, ◌<◌}
use mathlib.Core.Path.{◌≡◌, refl, ap, ◌∙◌}
use mathlib.Core.Bool.{Bool, true, false, cond, ◌||◌}
use mathlib.Core.List.{List}
use lib.Dec.{eqb}
use lib.ListN.{length}
use Rattle.output.specs.Text.{same}
use Rattle.message.specs.Message.{Message}
use Rattle.machine.specs.declared.State.{State}
use Rattle.machine.specs.declared.Request.{Request}
use Rattle.machine.specs.declared.Request.TheVariants.{ClientList, Halt, Help, LogLevel, Restart, SensorList, SensorSampling, SensorValue, VersionList, Watchdog}
use Rattle.machine.specs.State.{connected, with_level, with_pairs, with_client, with_reading, emptied}
use Rattle.machine.specs.Report.{Work}
use Rattle.machine.specs.Requests.{Asked, Nothing, NotMessage, Reply, Unknown, Asks, asked, listed, strategy_asked, sampled_pairs, sampling, answer}
use Rattle.machine.specs.Declined.{Action, Connect, Disconnect, Tick, Reading, Log, Line}
use Rattle.machine.specs.Machine.{perform, line_work}
use Rattle.machine.specs.TwoDevices.{is_connect, is_disconnect, clock_by}
use Rattle.machine.proofs.TestLaws.{cond_cases, cond_either}
use Rattle.machine.proofs.StateLaws.{client_connected_lem, none_connected}
use Rattle.machine.proofs.StepLaws.{name_for, by_superseding}
use Rattle.machine.proofs.AnsweredLaws.{asks_for}

-- what is said of the state after a request: of the same state, of another log level, of one without clients; after a query, after a sampling
pub answer_next : (P : Request → State → Type 0) (s : State) (c : ℕ) (m : Message)
    → ((r : Request) → same (name_for r) (name_for SensorSampling) ≡ false → P r s) → ((l : ℕ) → P LogLevel (with_level s l))
    → ((b : Bool) (l : ℕ) → P Halt (emptied s b l)) → ((b : Bool) (l : ℕ) → P Restart (emptied s b l))
    → (eqb (length m.args) 1 ≡ true → P SensorSampling s)
    → (eqb (length m.args) 1 ≡ false → P SensorSampling (with_pairs s (sampled_pairs s c (listed s.sheet m) (strategy_asked s.sheet m))))
    → (r : Request) → P r (answer s.sheet s c r m).next
unfolding answer sampling
answer_next P s c m kept levelled halted restarted queried set ClientList = kept ClientList refl
answer_next P s c m kept levelled halted restarted queried set Halt = halted true _
answer_next P s c m kept levelled halted restarted queried set Help = kept Help refl
answer_next P s c m kept levelled halted restarted queried set LogLevel = levelled _
answer_next P s c m kept levelled halted restarted queried set Restart = restarted false _
answer_next P s c m kept levelled halted restarted queried set SensorList = kept SensorList refl
answer_next P s c m kept levelled halted restarted queried set SensorSampling = cond_cases (λ (w : Work). P SensorSampling w.next) (eqb (length m.args) 1) _ _ queried set
answer_next P s c m kept levelled halted restarted queried set SensorValue = kept SensorValue refl
answer_next P s c m kept levelled halted restarted queried set VersionList = kept VersionList refl
answer_next P s c m kept levelled halted restarted queried set Watchdog = kept Watchdog refl

-- sampling leaves the clients
pub sampling_clients : (s : State) (c a : ℕ) (m : Message) → connected (sampling s.sheet s c m).next a ≡ connected s a
unfolding sampling
sampling_clients s c a m = cond_either (λ (w : Work). connected w.next a ≡ connected s a) (eqb (length m.args) 1) _ _ refl refl

-- over what a line asks
pub line_next : (P : State → Type 0) (s : State) (c : ℕ) (w : Asked) → P s → ((r : Request) (m : Message) → w ≡ Asks r m → P (answer s.sheet s c r m).next) → P (line_work s.sheet s c w).next
unfolding line_work
line_next P s c Nothing kept asks = kept
line_next P s c NotMessage kept asks = kept
line_next P s c Reply kept asks = kept
line_next P s c (Unknown m) kept asks = kept
line_next P s c (Asks r m) kept asks = asks r m refl

-- the sheet stays
pub perform_sheet : (s : State) (action : Action) → (perform s.sheet s action).next.sheet ≡ s.sheet
unfolding perform with_client with_reading
perform_sheet s (Connect c address) = refl
perform_sheet s (Disconnect c) = refl
perform_sheet s (Tick t) = refl
perform_sheet s (Reading j r) = by_superseding (λ (w : Work). w.next.sheet ≡ s.sheet) s.sheet s j r (λ _. refl) (λ _. refl)
perform_sheet s (Log level logger said) = refl
perform_sheet s (Line c line) = line_next (λ n. n.sheet ≡ s.sheet) s c (asked line) refl
    (λ r m e. answer_next (λ r n. n.sheet ≡ s.sheet) s c m (λ r e. refl) (λ l. refl) (λ b l. refl) (λ b l. refl) (λ e. refl) (λ e. refl) r)

-- readings and clock stay in a line
pub line_keeps : (s : State) (c : ℕ) (line : List ℕ) → ((line_work s.sheet s c (asked line)).next.readings ≡ s.readings) × ((line_work s.sheet s c (asked line)).next.clock ≡ s.clock)
line_keeps s c line = line_next (λ n. (n.readings ≡ s.readings) × (n.clock ≡ s.clock)) s c (asked line) (refl, refl)
    (λ r m e. answer_next (λ r n. (n.readings ≡ s.readings) × (n.clock ≡ s.clock)) s c m (λ r e. (refl, refl)) (λ l. (refl, refl)) (λ b l. (refl, refl)) (λ b l. (refl, refl)) (λ e. (refl, refl)) (λ e. (refl, refl)) r)

pub perform_clock : (s : State) (action : Action) → (perform s.sheet s action).next.clock ≡ clock_by action s.clock
unfolding perform with_client with_reading
perform_clock s (Connect c address) = refl
perform_clock s (Disconnect c) = refl
perform_clock s (Tick t) = refl
perform_clock s (Reading j r) = by_superseding (λ (w : Work). w.next.clock ≡ s.clock) s.sheet s j r (λ _. refl) (λ _. refl)
perform_clock s (Log level logger said) = refl
perform_clock s (Line c line) = (line_keeps s c line).1

-- a line that ends every connection
abbrev pub ends_connections : Action → Bool
ends_connections (Connect c address) = false
ends_connections (Disconnect c) = false
ends_connections (Tick t) = false
ends_connections (Reading j r) = false
ends_connections (Log level logger said) = false
ends_connections (Line c line) = asks_for Halt (asked line) || asks_for Restart (asked line)

answer_connected : (s : State) (a c : ℕ) (r : Request) (m : Message) → connected (answer s.sheet s c r m).next a ≡ cond (same (name_for r) (name_for Halt) || same (name_for r) (name_for Restart)) false (connected s a)
unfolding answer
answer_connected s a c ClientList m = refl
answer_connected s a c Halt m = none_connected a
answer_connected s a c Help m = refl
answer_connected s a c LogLevel m = refl
answer_connected s a c Restart m = none_connected a
answer_connected s a c SensorList m = refl
answer_connected s a c SensorSampling m = sampling_clients s c a m
answer_connected s a c SensorValue m = refl
answer_connected s a c VersionList m = refl
answer_connected s a c Watchdog m = refl

module _ (s : State) (a : ℕ) (ha : a < 8) where
  pub perform_connected : (action : Action) → connected (perform s.sheet s action).next a ≡ cond (is_connect a action) true (cond (is_disconnect a action || ends_connections action) false (connected s a))
  unfolding perform with_reading line_work
  perform_connected (Connect c address) = client_connected_lem s a ha c _
  perform_connected (Disconnect c) = client_connected_lem s a ha c _ ∙ ap (λ b. cond b false (connected s a)) (or_none_lem (eqb c a))
    where
      or_none_lem : (b : Bool) → b ≡ (b || false)
      or_none_lem true = refl
      or_none_lem false = refl
  perform_connected (Tick t) = refl
  perform_connected (Reading j r) = by_superseding (λ (w : Work). connected w.next a ≡ connected s a) s.sheet s j r (λ _. refl) (λ _. refl)
  perform_connected (Log level logger said) = refl
  perform_connected (Line c line) = go (asked line)
    where
      go : (w : Asked) → connected (line_work s.sheet s c w).next a ≡ cond (asks_for Halt w || asks_for Restart w) false (connected s a)
      go Nothing = refl
      go NotMessage = refl
      go Reply = refl
      go (Unknown m) = refl
      go (Asks r m) = answer_connected s a c r m
