-- Document 01, "Two devices": what is read off a list of calls, and demand 3. A list is kept with its latest call first (`h`); `start` is what the
-- device was opened with, sheet and profile: document 02, (m), "The facts of machine and archive are proved over the profile as a parameter, equal
-- archives .. being compared within one profile".
use Rattle.std.specs.Prelude.{ℕ, ◌-◌, ◌*◌, ◌≤◌, ◌<◌, ◌≡◌, Bool, true, false, cond, ◌&&◌, ◌||◌, List, [], ◌∷◌, ◌++◌, reverse, eqb, leb, length, take, Option, None, Some}
use Prim.Native.Char.{code}
use Rattle.output.specs.Text.{text, same}
use Rattle.message.specs.Message.{Message}
use Rattle.message.specs.Delivery.{Delivery, Packet, cut}
use Rattle.line.specs.Line.{Parse, malformed, message, parse}
use Rattle.value.specs.declared.Sample.{Sample}
use Rattle.value.specs.Reading.{fresh}
use Rattle.machine.specs.declared.Sensor.{Sensor}
use Rattle.machine.specs.declared.Sheet.{Sheet}
use Rattle.machine.specs.declared.Strategy.{Strategy}
use Rattle.machine.specs.declared.Strategy.TheVariants.{None as NoStrategy, Auto, Period, Event, Differential, EventRate, DifferentialRate}
use Rattle.machine.specs.declared.State.{State}
use Rattle.machine.specs.declared.Answer.{Answer}
use Rattle.machine.specs.Places.{any, has, from_first, joined, is_zero}
use Rattle.machine.specs.Sheet.{sensor_of}
use Rattle.machine.specs.State.{stored_of, present, pair_of}
use Rattle.machine.specs.Range.{is_none}
use Rattle.machine.specs.Opening.{Start, opened}
use Rattle.machine.specs.Messages.{status_for}
use Rattle.machine.specs.Report.{is_valid, apart, width}
use Rattle.machine.specs.Requests.{argument, listed, strategy_asked}
use Rattle.machine.specs.Declined.{Arrival, Action, Connect, Disconnect, Tick, Reading, Log, Line, Call}
use Rattle.machine.specs.Machine.{step, sample_given, answer_of, output_of}
use Rattle.machine.specs.Reader.{Told, News, Other, Impossible, Reported, SetTo, report_read, is_named, is_ok, standing}

-- Calls and what they return.

-- "It starts from the state that opening the sheet returned. Each call gets the state the last one returned"
unfoldable pub after : Start → List Call → State
after start [] = (opened start).state
after start (call ∷ h) = (answer_of (step (after start h) call)).state

-- the sheet that was opened
abbrev pub sheet_of : Start → Sheet
sheet_of start = (opened start).state.sheet

-- what a call returns, after the calls h
abbrev pub returned : Start → List Call → Call → Answer
returned start h call = answer_of (step (after start h) call)

-- it "returned 0"
abbrev pub returned_zero : Start → List Call → Call → Bool
returned_zero start h call = is_zero (returned start h call).number

-- the lent output as it returns
abbrev pub output_then : Start → List Call → Call → List ℕ
output_then start h call = output_of (step (after start h) call) call.lent

-- "its deliveries are those in the bytes it counts as written, read as it returns"
unfoldable pub packets_of : Start → List Call → Call → List Packet
packets_of start h call = cut (take (returned start h call).written (output_then start h call))

-- The archive's connection.

-- a connect of client a
abbrev pub is_connect : ℕ → Action → Bool
is_connect a (Connect c address) = eqb c a
is_connect a (Disconnect c) = false
is_connect a (Tick t) = false
is_connect a (Reading j r) = false
is_connect a (Log level logger said) = false
is_connect a (Line c line) = false

-- "connect of it that returned 0"
abbrev pub connects : Start → ℕ → List Call → Call → Bool
connects start a h call = returned_zero start h call && is_connect a call.action

-- a disconnect of client a
abbrev pub is_disconnect : ℕ → Action → Bool
is_disconnect a (Connect c address) = false
is_disconnect a (Disconnect c) = eqb c a
is_disconnect a (Tick t) = false
is_disconnect a (Reading j r) = false
is_disconnect a (Log level logger said) = false
is_disconnect a (Line c line) = false

-- a line without its byte 10
abbrev pub without_end : List ℕ → List ℕ
without_end l = take (length l - 1) l

-- a line that is a reply of success to a request of this name
abbrev pub says_ok : List ℕ → Parse → Bool
says_ok name malformed = false
says_ok name (message m) = is_ok name m

-- a line that is a request of this name
abbrev pub is_request : List ℕ → Parse → Bool
is_request name malformed = false
is_request name (message m) = is_named (code "?") name m

-- "answered `ok`": among the deliveries to the sender
unfoldable pub answered : List ℕ → ℕ → List Packet → Bool
answered name c ps = any (λ (p : Packet). eqb p.client c && says_ok name (parse (without_end p.bytes))) ps

-- a line of client c that is a request of this name and is answered `ok`
abbrev pub granted : List ℕ → ℕ → List ℕ → List Packet → Bool
granted name c line ps = is_request name (parse line) && answered name c ps

-- a `halt` or `restart` that is answered `ok`
abbrev pub ends_all : Action → List Packet → Bool
ends_all (Connect c address) ps = false
ends_all (Disconnect c) ps = false
ends_all (Tick t) ps = false
ends_all (Reading j r) ps = false
ends_all (Log level logger said) ps = false
ends_all (Line c line) ps = granted (text "halt") c line ps || granted (text "restart") c line ps

-- "connected at the end if after that no disconnect of it returned 0 and no `halt` or `restart` was answered `ok`"
unfoldable pub connected_at_end : Start → ℕ → List Call → Bool
connected_at_end start a [] = false
connected_at_end start a (call ∷ h) =
    cond (connects start a h call) true
    (cond ((returned_zero start h call && is_disconnect a call.action) || ends_all call.action (packets_of start h call)) false
    (connected_at_end start a h))

-- The archive's lines and messages.

-- the lines of client a among packets
unfoldable pub lines_to : ℕ → List Packet → List (List ℕ)
lines_to a [] = []
lines_to a (p ∷ ps) = cond (eqb p.client a) (p.bytes ∷ lines_to a ps) (lines_to a ps)

-- `#version-connect katcp-protocol`
abbrev pub greets : Message → Bool
greets m = is_named (code "#") (text "version-connect") m && same (argument m 0) (text "katcp-protocol")

-- a line that is it
abbrev pub is_greeting : Parse → Bool
is_greeting malformed = false
is_greeting (message m) = greets m

-- "Its lines are all delivered to it, in order, from that connect's `#version-connect katcp-protocol` on": a `#disconnect` that the same connect sends before
-- is the old client's (document 02, (m), "greets the newcomer, whose lines begin there")
unfoldable pub lines_of : Start → ℕ → List Call → List (List ℕ)
lines_of start a [] = []
lines_of start a (call ∷ h) =
    cond (connects start a h call) (from_first (λ l. is_greeting (parse (without_end l))) (lines_to a (packets_of start h call)))
    (lines_of start a h ++ lines_to a (packets_of start h call))

-- the messages to client a among deliveries
unfoldable pub sent_to : ℕ → List Delivery → List Message
sent_to a [] = []
sent_to a (d ∷ ds) = cond (eqb d.client a) (d.message ∷ sent_to a ds) (sent_to a ds)

-- "its messages are these as sent: kind, name, id, arguments before escaping"
unfoldable pub messages_of : Start → ℕ → List Call → List Message
messages_of start a [] = []
messages_of start a (call ∷ h) =
    cond (connects start a h call) (from_first greets (sent_to a (step (after start h) call).sent))
    (messages_of start a h ++ sent_to a (step (after start h) call).sent)

-- What the list says of a sensor.

-- a `sensor-sampling` that names sensor j with a strategy
abbrev pub names : Sheet → ℕ → Message → Bool
names sheet j m = leb 2 (length m.args) && has j (listed sheet m)

-- the strategy of such a line, else the one before
abbrev pub strategy_in : Sheet → ℕ → Parse → Strategy → Strategy
strategy_in sheet j malformed before = before
strategy_in sheet j (message m) before = cond (names sheet j m) (strategy_asked sheet m) before

-- the strategy that a call gives the archive's sensor, else the one before
abbrev pub strategy_after : Sheet → ℕ → ℕ → Action → List Packet → Strategy → Strategy
strategy_after sheet a j (Connect c address) ps before = before
strategy_after sheet a j (Disconnect c) ps before = before
strategy_after sheet a j (Tick t) ps before = before
strategy_after sheet a j (Reading k r) ps before = before
strategy_after sheet a j (Log level logger said) ps before = before
strategy_after sheet a j (Line c line) ps before =
    cond (eqb c a && granted (text "sensor-sampling") c line ps) (strategy_in sheet j (parse line) before) before

-- "those of the archive's last `sensor-sampling` since then that named it with a strategy and was answered `ok`, else none"
unfoldable pub strategy_of : Start → ℕ → ℕ → List Call → Strategy
strategy_of start a j [] = NoStrategy
strategy_of start a j (call ∷ h) =
    cond (connects start a h call) NoStrategy (strategy_after (sheet_of start) a j call.action (packets_of start h call) (strategy_of start a j h))

-- a report of sensor j
abbrev pub report_in : ℕ → News → Option Told
report_in j Other = None
report_in j Impossible = None
report_in j (Reported k r) = cond (eqb k j) (Some r) None
report_in j (SetTo js st) = None

-- of a `#sensor-status`
abbrev pub report_by : Sheet → ℕ → Parse → Option Told
report_by sheet j malformed = None
report_by sheet j (message m) = cond (is_named (code "#") (text "sensor-status") m) (report_in j (report_read sheet m)) None

-- the later of two, where there is one
abbrev pub later : Option Told → Option Told → Option Told
later None r = r
later (Some r) earlier = Some r

-- "the last `#sensor-status` for it among those lines"
unfoldable pub last_report : Sheet → ℕ → List (List ℕ) → Option Told
last_report sheet j [] = None
last_report sheet j (l ∷ ls) = later (last_report sheet j ls) (report_by sheet j (parse (without_end l)))

-- whether a reading of time t supersedes the present one: document 02, (g), "if its time is equal or later, or if the stored status is unknown", as it is
-- before the first reading; no reading gives it
abbrev pub superseding : ℕ → Option Arrival → Bool
superseding t None = true
superseding t (Some r) = leb r.time t

-- "the last given by a reading call for it that returned 0", and document 02, (g), "the last that superseded the one stored before it"
abbrev pub reading_by : ℕ → Action → Option Arrival → Option Arrival
reading_by j (Connect c address) before = before
reading_by j (Disconnect c) before = before
reading_by j (Tick t) before = before
reading_by j (Reading k r) before = cond (eqb k j && superseding r.time before) (Some r) before
reading_by j (Log level logger said) before = before
reading_by j (Line c line) before = before

-- over the list
unfoldable pub last_reading : Start → ℕ → List Call → Option Arrival
last_reading start j [] = None
last_reading start j (call ∷ h) = cond (returned_zero start h call) (reading_by j call.action (last_reading start j h)) (last_reading start j h)

-- "with the status and value of the section Values, else the fresh one"
abbrev pub sample_from : Sensor → Option Arrival → Sample
sample_from n None = fresh n.kind
sample_from n (Some r) = sample_given n r

-- document 02, (g), "its own time", else that of the fresh one
abbrev pub time_from : Option Arrival → ℕ
time_from None = 0
time_from (Some r) = r.time

-- the clock that a call sets
abbrev pub clock_by : Action → ℕ → ℕ
clock_by (Connect c address) before = before
clock_by (Disconnect c) before = before
clock_by (Tick t) before = t
clock_by (Reading k r) before = before
clock_by (Log level logger said) before = before
clock_by (Line c line) before = before

-- "the device's clock": the last tick that returned 0, else 0
unfoldable pub clock_of : Start → List Call → ℕ
clock_of start [] = 0
clock_of start (call ∷ h) = cond (returned_zero start h call) (clock_by call.action (clock_of start h)) (clock_of start h)

-- Two devices.

-- a device: the calls that drove it, first to last, and "An archive is a client number"
pub record Device : Type 0 where
  pub calls : List Call
  pub archive : ℕ

module _ (start : Start) (d : Device) where
  -- its calls, the latest first
  abbrev pub history : List Call
  history = reverse d.calls

  -- its archive is connected at the end
  abbrev pub archive_connected : Bool
  archive_connected = connected_at_end start d.archive history

  -- the bytes of its archive's lines, one line after another
  abbrev pub archived : List ℕ
  archived = joined (lines_of start d.archive history)

  -- its archive's messages
  abbrev pub messages : List Message
  messages = messages_of start d.archive history

  -- the strategy and parameters of a sensor
  abbrev pub strategy : ℕ → Strategy
  strategy j = strategy_of start d.archive j history

  -- its last report
  abbrev pub report : ℕ → Option Told
  report j = last_report (sheet_of start) j (lines_of start d.archive history)

  -- its present reading
  abbrev pub reading : ℕ → Sample
  reading j = sample_from (sensor_of (sheet_of start) j) (last_reading start j history)

  -- the time of its present reading
  abbrev pub reading_time : ℕ → ℕ
  reading_time j = time_from (last_reading start j history)

  -- the clock
  abbrev pub clock : ℕ
  clock = clock_of start history

  -- the state that the list ends with
  abbrev pub final : State
  final = after start history

-- "The shortest period has passed when the device's clock less the last report's is at least that period"; not without a report, and
-- `was_reported` says that there is one
abbrev pub Passed : ℕ → ℕ → Option Told → Type 0
Passed period now None = ⊥
Passed period now (Some r) = period ≤ now - r.time

-- the same status and value
abbrev pub Equal : Sensor → Sample → Sample → Type 0
Equal n x y = (status_for n x ≡ status_for n y) × (x.number ≡ y.number)

-- "the status is the same and, where it is valid, the values lie at most twice the difference apart"
abbrev pub Within : Sensor → ℕ → Sample → Sample → Type 0
Within n d x y = (status_for n x ≡ status_for n y) × (is_valid x ≡ true → apart x.number y.number * 1000000 ≤ 2 * width n d)

-- two present readings, by strategy; `passed s` says that the period s has passed in both devices
abbrev pub Alike : Sensor → Strategy → (ℕ → Type 0) → Sample → Sample → Type 0
Alike n NoStrategy passed x y = Unit
Alike n Auto passed x y = Equal n x y
Alike n (Period p) passed x y = Unit
Alike n Event passed x y = Equal n x y
Alike n (Differential d) passed x y = Within n d x y
Alike n (EventRate shortest longest) passed x y = passed shortest → Equal n x y
Alike n (DifferentialRate d shortest longest) passed x y = passed shortest → Within n d x y

-- what two devices share of sensor j
pub record Shared (start : Start) (d e : Device) (j : ℕ) : Type 0 where
  pub same_strategy : strategy start d j ≡ strategy start e j
  pub same_report : report start d j ≡ report start e j
  pub was_reported : is_none (strategy start d j) ≡ false → (r : Told) × (report start d j ≡ Some r)
  pub alike : Alike (sensor_of (sheet_of start) j) (strategy start d j)
      (λ s. Passed s (clock start d) (report start d j) × Passed s (clock start e) (report start e j)) (reading start d j) (reading start e j)

-- demand 3, for every sheet, either profile and every two lists
abbrev pub TwoDevices : Type 0
TwoDevices = (start : Start) (d e : Device) → archive_connected start d ≡ true → archive_connected start e ≡ true → archived start d ≡ archived start e
    → (messages start d ≡ messages start e) × ((j : ℕ) → j < (sheet_of start).count → Shared start d e j)

-- "The state a list ends with holds, for the archive and each sensor, that strategy, those parameters, that last report (none if there is none) and that present reading";
-- the time of that reading too, and its clock is that of the list
pub record Holds (start : Start) (d : Device) (j : ℕ) : Type 0 where
  pub strategy_held : (pair_of (final start d) d.archive j).strategy ≡ strategy start d j
  pub report_held : (standing (sheet_of start) (final start d) d.archive j).last ≡ report start d j
  pub reading_held : present (final start d) j ≡ reading start d j
  pub time_held : (stored_of (final start d) j).time ≡ reading_time start d j
  pub clock_held : (final start d).clock ≡ clock start d

-- for every device whose archive is connected at the end
abbrev pub Held : Type 0
Held = (start : Start) (d : Device) → archive_connected start d ≡ true → (j : ℕ) → j < (sheet_of start).count → Holds start d j
