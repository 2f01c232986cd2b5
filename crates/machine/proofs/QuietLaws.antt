-- Messages that tell the reader nothing.
use Prim.Native.Nat.{ℕ}
use mathlib.Core.Path.{◌≡◌, refl, ap, ◌∙◌}
use mathlib.Core.Bool.{Bool, true, false, cond, not, ◌&&◌, ◌||◌, true≢false}
use mathlib.Core.List.{List, [], ◌∷◌, map}
use lib.Dec.{eqb, leb, ltb}
use Rattle.output.specs.Text.{text, same}
use Rattle.message.specs.Message.{Message}
use Rattle.message.specs.Delivery.{Delivery, to}
use Rattle.machine.specs.declared.Sheet.{Sheet}
use Rattle.machine.specs.declared.State.{State}
use Rattle.machine.specs.declared.Request.{Request}
use Rattle.machine.specs.declared.Request.TheVariants.{ClientList, Halt, Help, LogLevel, Restart, SensorList, SensorSampling, SensorValue, VersionList, Watchdog}
use Rattle.machine.specs.Places.{Each}
use Rattle.machine.specs.Sheet.{sensor_of}
use Rattle.machine.specs.State.{connected, start_level}
use Rattle.machine.specs.Messages
use Rattle.machine.specs.Requests.{end_connections, Asked, Nothing, NotMessage, Reply, Unknown, Asks, asked, asked_places, help_names, addresses, level_asked, answer}
use Rattle.machine.specs.Declined.{Action, Connect, Disconnect, Tick, Reading, Log, Line, line_refusal, refusal}
use Rattle.machine.specs.Machine.{connect_sends, entries}
use Rattle.machine.specs.Reader.{Other, sampling_news, news}
use Rattle.machine.proofs.TestLaws.{cond_false, cond_either}
use Rattle.machine.proofs.PlacesLaws.{each_append, each_gather, each_one, each_map, each_of}
use Rattle.machine.proofs.StepLaws.{name_for, connect_each}

-- a delivery that tells nothing
abbrev pub Silent : Sheet → Delivery → Type 0
Silent sheet d = news sheet d.message ≡ Other

-- each tells nothing
abbrev pub Quiet : Sheet → List Delivery → Type 0
Quiet sheet ds = Each (Silent sheet) ds

where_quiet : (sheet : Sheet) (is : ℕ → Bool) (m : Message) → news sheet m ≡ Other → Quiet sheet (Messages.to_where is m)
unfolding Messages.to_where
where_quiet sheet is m h = each_gather (Silent sheet) _ 8 (λ c l. each_one (Silent sheet) (is c) (to c m) (λ t. h))

pub connect_sends_quiet : (sheet : Sheet) (s : State) (c : ℕ) (address : List ℕ) → Quiet sheet (connect_sends sheet s c address)
unfolding news
connect_sends_quiet sheet s c address = connect_each (Silent sheet) sheet s c address (λ _ _. refl) refl refl
    (where_quiet sheet (λ k. connected s k && not (eqb k c)) (Messages.client_connected address) refl)

pub entries_quiet : (sheet : Sheet) (s : State) (level : ℕ) (logger said : List ℕ) → Quiet sheet (entries s level logger said)
unfolding entries news
entries_quiet sheet s level logger said = go (leb level s.level)
  where
    go : (b : Bool) → Quiet sheet (cond b (Messages.to_all s (Messages.log_entry level s.clock logger said)) [])
    go true = where_quiet sheet (connected s) (Messages.log_entry level s.clock logger said) refl
    go false = tt

-- Answers.

-- a reply under another name than that of sampling
reply_quiet : (sheet : Sheet) (m : Message) (args : List (List ℕ)) → same m.name (text "sensor-sampling") ≡ false → news sheet (Messages.reply m args) ≡ Other
unfolding news
reply_quiet sheet m args h = rw h

counted_quiet : (sheet : Sheet) (c : ℕ) (m : Message) (ms : List Message) → same m.name (text "sensor-sampling") ≡ false
    → Each (λ m. news sheet m ≡ Other) ms → Quiet sheet (Messages.counted_answer c m ms)
unfolding Messages.counted_answer
counted_quiet sheet c m ms h k = each_append (Silent sheet) (map (to c) ms) _ (each_map (Silent sheet) (to c) ms k) (reply_quiet sheet m _ h, tt)

module _ (sheet : Sheet) (s : State) (c : ℕ) (m : Message) (other : same m.name (text "sensor-sampling") ≡ false) where
  informs_quiet : {A : Type 0} (f : A → Message) (xs : List A) → ((x : A) → news sheet (f x) ≡ Other) → Quiet sheet (Messages.counted_answer c m (map f xs))
  informs_quiet f xs k = counted_quiet sheet c m (map f xs) other (each_of (λ m. news sheet m ≡ Other) f xs k)

  ending_quiet : (why : List ℕ) (halted : Bool) (level : ℕ) → Quiet sheet (end_connections s c m why halted level).sent
  unfolding news
  ending_quiet why halted level = (reply_quiet sheet m (text "ok" ∷ []) other, where_quiet sheet (connected s) (Messages.disconnect why) refl)

  by_request : (r : Request) → same (name_for r) (name_for SensorSampling) ≡ false → Quiet sheet (answer sheet s c r m).sent
  unfolding answer news Messages.sensor_inform Messages.value_inform
  by_request ClientList h = informs_quiet (Messages.client_inform m.id) (addresses s) (λ x. refl)
  by_request Halt h = ending_quiet (text "Device halting.") true s.level
  by_request Help h = informs_quiet (Messages.help_inform m.id) (help_names sheet.profile m) (λ x. refl)
  by_request LogLevel h = (reply_quiet sheet m (text "ok" ∷ Messages.level_text (level_asked s m) ∷ []) other, tt)
  by_request Restart h = ending_quiet (text "Device restarting.") false start_level
  by_request SensorList h = informs_quiet (λ j. Messages.sensor_inform m.id (sensor_of sheet j)) (asked_places sheet m) (λ x. refl)
  by_request SensorSampling h = absurd (true≢false h)
  by_request SensorValue h = informs_quiet (Messages.value_inform m.id s sheet) (asked_places sheet m) (λ x. refl)
  by_request VersionList h = informs_quiet (Messages.version_inform m.id) (Messages.protocol_args sheet.profile ∷ Messages.device_args sheet ∷ []) (λ x. refl)
  by_request Watchdog h = (reply_quiet sheet m (text "ok" ∷ []) other, tt)

pub answer_quiet : (sheet : Sheet) (s : State) (c : ℕ) (r : Request) (m : Message) → m.name ≡ name_for r → same (name_for r) (name_for SensorSampling) ≡ false
    → Quiet sheet (answer sheet s c r m).sent
answer_quiet sheet s c r m e h = by_request sheet s c m (ap (λ t. same t (name_for SensorSampling)) e ∙ h) r h

-- Refusals.

-- "fail" and "invalid" are not "ok"
pub code_not_ok : (n : ℕ) → same (Messages.refusal_code n) (text "ok") ≡ false
code_not_ok n = cond_either (λ t. same t (text "ok") ≡ false) (eqb n 16 || (eqb n 18 || eqb n 23)) (text "fail") (text "invalid") refl refl

refused_quiet : (sheet : Sheet) (m : Message) (n : ℕ) → news sheet (Messages.refusal_reply m n) ≡ Other
unfolding news
refused_quiet sheet m n = go (same m.name (text "sensor-sampling")) (same (Messages.refusal_code n) (text "ok")) (code_not_ok n)
  where
    go : (a b : Bool) → b ≡ false → cond (a && b) (sampling_news sheet (Messages.refusal_reply m n)) Other ≡ Other
    go true b e = cond_false b _ Other e
    go false b e = refl

asked_quiet : (sheet : Sheet) (clock c n : ℕ) (a : Asked) → Quiet sheet (line_refusal clock c n a)
unfolding line_refusal news
asked_quiet sheet clock c n Nothing = tt
asked_quiet sheet clock c n NotMessage = (refl, tt)
asked_quiet sheet clock c n Reply = (refl, tt)
asked_quiet sheet clock c n (Unknown m) = (refused_quiet sheet m n, tt)
asked_quiet sheet clock c n (Asks r m) = (refused_quiet sheet m n, tt)

pub refusal_quiet : (sheet : Sheet) (s : State) (n : ℕ) (action : Action) → Quiet sheet (refusal s n action)
unfolding refusal
refusal_quiet sheet s n (Connect c address) = tt
refusal_quiet sheet s n (Disconnect c) = tt
refusal_quiet sheet s n (Tick t) = tt
refusal_quiet sheet s n (Reading j r) = tt
refusal_quiet sheet s n (Log level logger said) = tt
refusal_quiet sheet s n (Line c line) = line_quiet (ltb n 12 || ltb 23 n)
  where
    line_quiet : (b : Bool) → Quiet sheet (cond b [] (line_refusal s.clock c n (asked line)))
    line_quiet true = tt
    line_quiet false = asked_quiet sheet s.clock c n (asked line)
