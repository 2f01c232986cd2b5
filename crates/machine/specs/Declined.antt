-- Document 01, "Why a call or line is declined": calls, and the number of the row that declines one, 0 for none.
use Rattle.std.specs.Prelude.{ℕ, ◌+◌, Bool, cond, not, ◌&&◌, ◌||◌, List, [], ◌∷◌, eqb, leb, ltb, length, drop, None, Option}
use Rattle.output.specs.Read.{in_time}
use Rattle.message.specs.Message.{Message}
use Rattle.message.specs.Delivery.{Delivery, to}
use Rattle.line.specs.Answer.{parsed_number}
use Rattle.value.specs.declared.Reading.{Reading as Given}
use Rattle.value.specs.Reading.{sample_of, is_measured}
use Rattle.value.specs.Answer.{sampled_number, parameter_number}
use Rattle.machine.specs.declared.Sensor.{Sensor}
use Rattle.machine.specs.declared.Sheet.{Sheet}
use Rattle.machine.specs.declared.State.{State}
use Rattle.machine.specs.declared.Request.{Request}
use Rattle.machine.specs.declared.Request.TheVariants.{ClientList, Halt, Help, LogLevel, Restart, SensorList, SensorSampling, SensorValue, VersionList, Watchdog}
use Rattle.machine.specs.Places.{any, twice}
use Rattle.machine.specs.Sheet.{single, last_client, sensor_of, not_on_sheet, graphic, printable, name_byte, text_fits}
use Rattle.machine.specs.State.{connected}
use Rattle.machine.specs.Range.{in_range}
use Rattle.machine.specs.Requests.{Asked, Nothing, NotMessage, Reply, Unknown, Asks, asked, argument, asked_places, request_named, hidden, found, found_number, level_of, listed, kind_asked, parameter_count, by_difference, is_bad, parameters_of, strategy_made, shortest_over_longest}
use Rattle.machine.specs.Messages.{refusal_entry, refusal_reply}

-- a reading as it arrives: what it says and, in milliseconds, the time that it brings: document 02, (g), "A reading now brings its own time"
pub record Arrival : Type 0 where
  pub reading : Given
  pub time : ℕ

-- a reading by its parts
abbrev pub arrival : Given → ℕ → Arrival
arrival reading time = record { reading = reading; time = time }

-- What is asked of the unit: the calls but opening, with their arguments.
pub data Action : Type 0 where
  Connect : ℕ → List ℕ → Action  -- client, address text
  Disconnect : ℕ → Action  -- client
  Tick : ℕ → Action  -- milliseconds
  Reading : ℕ → Arrival → Action  -- "sensor by place in the sheet, from 0", reading
  Log : ℕ → List ℕ → List ℕ → Action  -- level, logger, message
  Line : ℕ → List ℕ → Action  -- client, its line without end

-- a call: what is asked, and what the lent output holds
pub record Call : Type 0 where
  pub action : Action
  pub lent : List ℕ

-- a call by its parts
abbrev pub call_of : Action → List ℕ → Call
call_of action lent = record { action = action; lent = lent }

-- rows that are asked behind others: the number of those before, or theirs where none of those declines
abbrev pub rows_behind : ℕ → ℕ → ℕ
rows_behind before rest = cond (eqb before 0) rest before

-- Rows 5 to 11, 26 and 32.

-- "client above 7", 5; document 02, (m): "32 when a client above 0 is named under profile 1, in 5's place"
abbrev pub above_last : ℕ → ℕ
above_last profile = cond (single profile) 32 5

-- this row; then "connect: connected; else: not connected", 6
unfoldable pub client_declined : ℕ → Bool → ℕ → ℕ → ℕ
client_declined profile refused c rest = cond (ltb (last_client profile) c) (above_last profile) (cond refused 6 rest)

-- whether 6 declines a connect: under profile 1 "6 is not given there"
abbrev pub connect_refused : ℕ → Bool → Bool
connect_refused profile there = there && not (single profile)

-- "address text (1–48 bytes 0x21–0x7E)"
unfoldable pub address_fits : List ℕ → Bool
address_fits t = text_fits 1 48 graphic t

-- "tick below clock or above limit"
unfoldable pub tick_fits : State → ℕ → Bool
tick_fits s t = leb s.clock t && in_time t

-- "outside 0x20–0x7E, 9, 10, 13"
unfoldable pub entry_byte : ℕ → Bool
entry_byte b = printable b || (eqb b 9 || (eqb b 10 || eqb b 13))

-- "log level off/all, logger not 1–32 name bytes, message over 256 or outside 0x20–0x7E, 9, 10, 13"
unfoldable pub entry_fits : ℕ → List ℕ → List ℕ → Bool
entry_fits level logger said = (leb 1 level && leb level 6) && (text_fits 1 32 name_byte logger && text_fits 0 256 entry_byte said)

-- "reading unfit for type", 10; document 02, (g): "26 .. when the reading's time is above the clock, tested after 10"
unfoldable pub reading_declined : Sensor → ℕ → Arrival → ℕ
reading_declined n clock r = rows_behind (sampled_number (sample_of n.kind n.option_count r.reading)) (cond (ltb clock r.time) 26 0)

-- Rows 14 to 23.

-- the number of arguments that a request takes
unfoldable pub count_fits : Request → ℕ → Bool
count_fits ClientList n = eqb n 0
count_fits Halt n = eqb n 0
count_fits Help n = leb n 1
count_fits LogLevel n = leb n 1
count_fits Restart n = eqb n 0
count_fits SensorList n = leb n 1
count_fits SensorSampling n = leb 1 n
count_fits SensorValue n = leb n 1
count_fits VersionList n = eqb n 0
count_fits Watchdog n = eqb n 0

-- a list of names, by the places of their sensors: "If one name is unknown or stands twice, .. 16 or 21 answers, with 16 first" (document 02, (a)); then
-- the rows behind these two
abbrev pub places_declined : Sheet → List ℕ → ℕ → ℕ
places_declined sheet js rest = cond (any (not_on_sheet sheet) js) 16 (cond (twice js) 21 rest)

-- `sensor-list` and `sensor-value`: no row behind these
abbrev pub sensors_declined : Sheet → Message → ℕ
sensors_declined sheet m = places_declined sheet (asked_places sheet m) 0

-- "help on unknown name", 23
abbrev pub help_declined : ℕ → Option Request → ℕ
help_declined profile o = found_number 23 (found profile o)

-- a list with a strategy: "17, 15 (parameters), 18, 19, 20"; of the places js, with n arguments, ts behind the strategy's word
unfoldable pub setting_declined : Sheet → List ℕ → ℕ → ℕ → List (List ℕ) → ℕ
setting_declined sheet js k n ts =
    cond (leb 7 k) 17
    (cond (not (eqb n (2 + parameter_count k))) 15
    (cond (by_difference k && any (λ j. not (is_measured (sensor_of sheet j).kind)) js) 18
    (cond (any is_bad (parameters_of sheet js k ts)) (parameter_number None)
    (cond (shortest_over_longest (strategy_made sheet js k ts)) 20
    0))))

-- "this order for sampling: 15 (none), 16, 21, 15 (list without strategy), .." (the first of these is that of every request)
unfoldable pub sampling_declined : Sheet → Message → ℕ
sampling_declined sheet m =
    places_declined sheet (listed sheet m)
    (cond (eqb (length m.args) 1) (cond (ltb 1 (length (listed sheet m))) 15 0)
    (setting_declined sheet (listed sheet m) (kind_asked m) (length m.args) (drop 2 m.args)))

-- what a request's arguments are declined for
unfoldable pub arguments_declined : Sheet → Request → Message → ℕ
arguments_declined sheet ClientList m = 0
arguments_declined sheet Halt m = 0
arguments_declined sheet Help m = cond (eqb (length m.args) 0) 0 (help_declined sheet.profile (request_named (argument m 0)))
arguments_declined sheet LogLevel m = cond (eqb (length m.args) 0) 0 (cond (leb 8 (level_of (argument m 0))) 22 0)
arguments_declined sheet Restart m = 0
arguments_declined sheet SensorList m = sensors_declined sheet m
arguments_declined sheet SensorSampling m = sampling_declined sheet m
arguments_declined sheet SensorValue m = sensors_declined sheet m
arguments_declined sheet VersionList m = 0
arguments_declined sheet Watchdog m = 0

-- "argument count", 15, and what the arguments are declined for
abbrev pub request_declined : Sheet → Request → Message → ℕ
request_declined sheet r m = cond (not (count_fits r (length m.args))) 15 (arguments_declined sheet r m)

-- "line over 2,048 or no message", 12; "reply received", 13; "request unknown", 14
unfoldable pub line_declined : Sheet → Asked → ℕ
line_declined sheet Nothing = 0
line_declined sheet NotMessage = parsed_number None
line_declined sheet Reply = 13
line_declined sheet (Unknown m) = found_number 14 None
line_declined sheet (Asks r m) = cond (hidden sheet.profile r) (found_number 14 None) (request_declined sheet r m)

-- the rows from 5 on, "Lower number first"
unfoldable pub action_declined : Sheet → State → Action → ℕ
action_declined sheet s (Connect c address) = client_declined sheet.profile (connect_refused sheet.profile (connected s c)) c (cond (address_fits address) 0 7)
action_declined sheet s (Disconnect c) = client_declined sheet.profile (not (connected s c)) c 0
action_declined sheet s (Tick t) = cond (tick_fits s t) 0 8
action_declined sheet s (Reading j r) = cond (not_on_sheet sheet j) 9 (reading_declined (sensor_of sheet j) s.clock r)
action_declined sheet s (Log level logger said) = cond (entry_fits level logger said) 0 11
action_declined sheet s (Line c line) = client_declined sheet.profile (not (connected s c)) c (line_declined sheet (asked line))

-- "state field out of range", 1; "output under 65,536 bytes", 2; "device halted", 3
unfoldable pub declined : Sheet → State → Call → ℕ
declined sheet s call =
    cond (not (in_range s)) 1 (cond (ltb (length call.lent) 65536) 2 (cond s.halted 3 (action_declined sheet s call.action)))

-- What a refusal sends: nothing below 12, at 26 and at 32; "12 and 13 go to the sender despite the log level"; from 14 on a reply.

-- by what the line asks
unfoldable pub line_refusal : ℕ → ℕ → ℕ → Asked → List Delivery
line_refusal clock c n Nothing = []
line_refusal clock c n NotMessage = to c (refusal_entry clock n) ∷ []
line_refusal clock c n Reply = to c (refusal_entry clock n) ∷ []
line_refusal clock c n (Unknown m) = to c (refusal_reply m n) ∷ []
line_refusal clock c n (Asks r m) = to c (refusal_reply m n) ∷ []

-- by the call
unfoldable pub refusal : State → ℕ → Action → List Delivery
refusal s n (Connect c address) = []
refusal s n (Disconnect c) = []
refusal s n (Tick t) = []
refusal s n (Reading j r) = []
refusal s n (Log level logger said) = []
refusal s n (Line c line) = cond (ltb n 12 || ltb 23 n) [] (line_refusal s.clock c n (asked line))
