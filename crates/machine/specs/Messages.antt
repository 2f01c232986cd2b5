-- Every message the unit sends (document 01, "Machine", "Requests" and the texts of "Why a call or line is declined").
use Rattle.std.specs.Prelude.{ℕ, ◌-◌, Bool, cond, not, ◌&&◌, ◌||◌, List, [], ◌∷◌, ◌++◌, map, eqb, length, get_or}
use Prim.Native.Char.{code}
use Rattle.output.specs.Text.{text}
use Rattle.output.specs.Number.{decimal, time, whole_difference, difference}
use Rattle.message.specs.Message.{Message, message}
use Rattle.message.specs.Delivery.{Delivery, to}
use Rattle.value.specs.declared.Limits.{Limits}
use Rattle.value.specs.declared.Sample.{Sample}
use Rattle.value.specs.Status.{status_of, status_text}
use Rattle.value.specs.Value.{value_text}
use Rattle.machine.specs.declared.Sensor.{Sensor}
use Rattle.machine.specs.declared.Sheet.{Sheet}
use Rattle.machine.specs.declared.Strategy.{Strategy}
use Rattle.machine.specs.declared.Strategy.TheVariants.{None, Auto, Period, Event, Differential, EventRate, DifferentialRate}
use Rattle.machine.specs.declared.State.{State}
use Rattle.machine.specs.Places.{gather, tabulate, one_if}
use Rattle.machine.specs.Sheet.{single, sensor_of, name_of, description_of, units_of, option_of, api_of, build_of}
use Rattle.machine.specs.State.{stored_of, present, connected}

-- an inform with an id, 0 for none
abbrev pub inform_with : ℕ → List ℕ → List (List ℕ) → Message
inform_with id name args = message (code "#") name id args

-- an inform without id
abbrev pub inform : List ℕ → List (List ℕ) → Message
inform name args = inform_with 0 name args

-- "Replies keep name and id": the reply to a request
abbrev pub reply : Message → List (List ℕ) → Message
reply m args = message (code "!") m.name m.id args

-- Connecting and leaving.

-- the arguments of `#version-connect katcp-protocol 5.1-MIB`; document 02, (m): "Profile 1 writes `5.1-IB`"
abbrev pub protocol_args : ℕ → List (List ℕ)
protocol_args profile = text "katcp-protocol" ∷ cond (single profile) (text "5.1-IB") (text "5.1-MIB") ∷ []

-- the arguments of "`katcp-device` with API and build"
abbrev pub device_args : Sheet → List (List ℕ)
device_args sheet = text "katcp-device" ∷ api_of sheet ∷ build_of sheet ∷ []

-- `#version-connect`
abbrev pub version_connect : List (List ℕ) → Message
version_connect args = inform (text "version-connect") args

-- "`#client-connected` with the address"
abbrev pub client_connected : List ℕ → Message
client_connected address = inform (text "client-connected") (address ∷ [])

-- "`#disconnect` (`Device halting.`, `Device restarting.`)"
abbrev pub disconnect : List ℕ → Message
disconnect why = inform (text "disconnect") (why ∷ [])

-- document 02, (m): "`#disconnect` with `New client connected from`, a space and the newcomer's address as one argument"
abbrev pub displaced : List ℕ → Message
displaced address = disconnect (text "New client connected from " ++ address)

-- Log entries.

-- "off, fatal, error, warn, info, debug, trace, all", the levels 0 to 7
unfoldable pub level_text : ℕ → List ℕ
level_text l =
    get_or (text "off" ∷ text "fatal" ∷ text "error" ∷ text "warn" ∷ text "info" ∷ text "debug" ∷ text "trace" ∷ []) l (text "all")

-- "`#log level clock logger message`"
abbrev pub log_entry : ℕ → ℕ → List ℕ → List ℕ → Message
log_entry level clock logger said = inform (text "log") (level_text level ∷ time clock ∷ logger ∷ said ∷ [])

-- Values of a sensor.

-- the status of a sample of a sensor
abbrev pub status_for : Sensor → Sample → ℕ
status_for n x = status_of n.limits x

-- a stored number of a sensor as its value is written
unfoldable pub value_for : Sensor → ℕ → List ℕ
value_for n v = value_text n.kind (option_of n v) v

-- time, `1`, name, status, value
abbrev pub value_args : ℕ → Sensor → Sample → List (List ℕ)
value_args t n x = time t ∷ text "1" ∷ name_of n ∷ status_text (status_for n x) ∷ value_for n x.number ∷ []

-- "A report is `#sensor-status`, clock, `1`, name, status, value"
unfoldable pub report : ℕ → Sensor → Sample → Message
report clock n x = inform (text "sensor-status") (value_args clock n x)

-- the report of a sensor's present reading, at the clock
abbrev pub report_of : Sheet → State → ℕ → Message
report_of sheet s j = report s.clock (sensor_of sheet j) (present s j)

-- Informs of requests, each "with that id".

-- "`client-list`: address each"
abbrev pub client_inform : ℕ → List ℕ → Message
client_inform id address = inform_with id (text "client-list") (address ∷ [])

-- `help`: "name and description; the description is the request's name"
abbrev pub help_inform : ℕ → List ℕ → Message
help_inform id name = inform_with id (text "help") (name ∷ name ∷ [])

-- `version-list`
abbrev pub version_inform : ℕ → List (List ℕ) → Message
version_inform id args = inform_with id (text "version-list") args

-- the words of the types 1 to 5, from 001's Table 6
unfoldable pub type_text : ℕ → List ℕ
type_text t = get_or (text "" ∷ text "integer" ∷ text "float" ∷ text "boolean" ∷ text "discrete" ∷ []) t (text "timestamp")

-- nominal-min, nominal-max, warn-min, warn-max: so many of them as the sheet has
unfoldable pub limit_numbers : Limits → List ℕ
limit_numbers l =
    cond (eqb l.count 0) []
    (cond (eqb l.count 2) (l.nominal_min ∷ l.nominal_max ∷ [])
    (l.nominal_min ∷ l.nominal_max ∷ l.warn_min ∷ l.warn_max ∷ []))

-- "limits or options"
unfoldable pub type_args : Sensor → List (List ℕ)
type_args n = cond (eqb n.kind 4) (tabulate (option_of n) n.option_count) (map (value_for n) (limit_numbers n.limits))

-- "`sensor-list [name]`: name, description, units, type, limits or options"
unfoldable pub sensor_inform : ℕ → Sensor → Message
sensor_inform id n =
    inform_with id (text "sensor-list") (name_of n ∷ description_of n ∷ units_of n ∷ type_text n.kind ∷ type_args n)

-- "`sensor-value [name]`: one inform per sensor, reading's time, `1`, name, status, value"
unfoldable pub value_inform : ℕ → State → Sheet → ℕ → Message
value_inform id s sheet j = inform_with id (text "sensor-value") (value_args (stored_of s j).time (sensor_of sheet j) (present s j))

-- Replies.

-- a reply of success
abbrev pub ok_reply : Message → List (List ℕ) → Message
ok_reply m args = reply m (text "ok" ∷ args)

-- "the reply counts them"
abbrev pub count_reply : Message → ℕ → Message
count_reply m n = ok_reply m (decimal n ∷ [])

-- the words of the strategies, from 001's Table 9, none first
unfoldable pub strategy_text : ℕ → List ℕ
strategy_text k =
    get_or (text "none" ∷ text "auto" ∷ text "period" ∷ text "event" ∷ text "differential" ∷ text "event-rate" ∷ []) k (text "differential-rate")

-- the place of a strategy among them
abbrev pub strategy_kind : Strategy → ℕ
strategy_kind None = 0
strategy_kind Auto = 1
strategy_kind (Period p) = 2
strategy_kind Event = 3
strategy_kind (Differential d) = 4
strategy_kind (EventRate a b) = 5
strategy_kind (DifferentialRate d a b) = 6

-- a difference as it is written for a sensor
unfoldable pub difference_text : Sensor → ℕ → List ℕ
difference_text n d = cond (eqb n.kind 1) (whole_difference d) (difference d)

-- the parameters as they are written for a sensor, in Table 9's order
abbrev pub parameter_texts : Sensor → Strategy → List (List ℕ)
parameter_texts n None = []
parameter_texts n Auto = []
parameter_texts n (Period p) = time p ∷ []
parameter_texts n Event = []
parameter_texts n (Differential d) = difference_text n d ∷ []
parameter_texts n (EventRate a b) = time a ∷ time b ∷ []
parameter_texts n (DifferentialRate d a b) = difference_text n d ∷ time a ∷ time b ∷ []

-- "It echoes names as given and parameters in written form": for the sensor named first
unfoldable pub sampling_reply : Message → List ℕ → Sensor → Strategy → Message
sampling_reply m names n st = ok_reply m (names ∷ strategy_text (strategy_kind st) ∷ parameter_texts n st)

-- Refusals.

-- the texts of the rows 12 to 23
unfoldable pub refusal_text : ℕ → List ℕ
refusal_text n =
    get_or (text "Not a message." ∷ text "Unexpected reply." ∷ text "Unknown request." ∷ text "Wrong number of arguments." ∷ text "Unknown sensor."
    ∷ text "Unknown strategy." ∷ text "Strategy not for this type." ∷ text "Bad parameter." ∷ text "Shortest exceeds longest."
    ∷ text "Sensor named twice." ∷ text "Unknown level." ∷ []) (n - 12) (text "Unknown request.")

-- "fail" in the rows 16, 18 and 23, "invalid" in the others from 14 on
abbrev pub refusal_code : ℕ → List ℕ
refusal_code n = cond (eqb n 16 || (eqb n 18 || eqb n 23)) (text "fail") (text "invalid")

-- "`#log error` clock `katcp`", the rows 12 and 13
abbrev pub refusal_entry : ℕ → ℕ → Message
refusal_entry clock n = log_entry 2 clock (text "katcp") (refusal_text n)

-- the rows from 14 on
abbrev pub refusal_reply : Message → ℕ → Message
refusal_reply m n = reply m (refusal_code n ∷ refusal_text n ∷ [])

-- To several clients: "Wherever several clients are served, lower numbers come first".

-- to each client that passes the test
unfoldable pub to_where : (ℕ → Bool) → Message → List Delivery
to_where is m = gather (λ c. one_if (is c) (to c m)) 8

-- to all connected clients
abbrev pub to_all : State → Message → List Delivery
to_all s m = to_where (connected s) m

-- "the other clients"
abbrev pub to_others : State → ℕ → Message → List Delivery
to_others s c m = to_where (λ k. connected s k && not (eqb k c)) m

-- all to one client
abbrev pub all_to : ℕ → List Message → List Delivery
all_to c ms = map (to c) ms

-- informs, and then the reply that counts them
unfoldable pub counted_answer : ℕ → Message → List Message → List Delivery
counted_answer c m informs = all_to c informs ++ (to c (count_reply m (length informs)) ∷ [])
