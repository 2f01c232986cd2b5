-- Document 01, "Requests": the table of requests, what a line asks, and the names, strategies and parameters of `sensor-sampling`.
use Rattle.std.specs.Prelude.{ℕ, ◌/◌, ◌%◌, Bool, true, false, cond, not, ◌&&◌, ◌||◌, List, [], ◌∷◌, map, eqb, ltb, length, get_or, drop, Some, None, Option}
use Prim.Native.Char.{code}
use Rattle.output.specs.Text.{text, same}
use Rattle.message.specs.Message.{Message}
use Rattle.message.specs.Delivery.{Delivery, to}
use Rattle.line.specs.Line.{Parse, malformed, message, parse, blank_line}
use Rattle.value.specs.declared.Sample.{Sample}
use Rattle.value.specs.Parameter.{integer_difference_of, float_difference_of, period_of, shortest_of}
use Rattle.machine.specs.declared.Sensor.{Sensor}
use Rattle.machine.specs.declared.Sheet.{Sheet}
use Rattle.machine.specs.declared.Strategy.{Strategy}
use Rattle.machine.specs.declared.Strategy.TheVariants.{None as NoStrategy, Auto, Period, Event, Differential, EventRate, DifferentialRate}
use Rattle.machine.specs.declared.Client.{Client}
use Rattle.machine.specs.declared.Subscription.{Subscription}
use Rattle.machine.specs.declared.State.{State}
use Rattle.machine.specs.declared.Request.{Request}
use Rattle.machine.specs.declared.Request.TheVariants.{ClientList, Halt, Help, LogLevel, Restart, SensorList, SensorSampling, SensorValue, VersionList, Watchdog}
use Rattle.machine.specs.Places.{tabulate, gather, one_if, any, only, first_below, has}
use Rattle.machine.specs.Sheet.{single, sensor_of, place_of}
use Rattle.machine.specs.State.{no_client, present, address_of, pair_at, pair_of, with_pairs, with_level, emptied, start_level}
use Rattle.machine.specs.Range.{is_none}
use Rattle.machine.specs.Messages
use Rattle.machine.specs.Report.{Work}

-- The table of requests, "alphabetical": it finds a line's request, and `help` lists it.

-- a request and its name
pub record Row : Type 0 where
  pub name : List ℕ
  pub request : Request

-- a row by its parts
abbrev pub row : List ℕ → Request → Row
row name r = record { name = name; request = r }

-- the ten requests
abbrev pub requests : List Row
requests =
    row (text "client-list") ClientList
    ∷ row (text "halt") Halt
    ∷ row (text "help") Help
    ∷ row (text "log-level") LogLevel
    ∷ row (text "restart") Restart
    ∷ row (text "sensor-list") SensorList
    ∷ row (text "sensor-sampling") SensorSampling
    ∷ row (text "sensor-value") SensorValue
    ∷ row (text "version-list") VersionList
    ∷ row (text "watchdog") Watchdog
    ∷ []

-- the request of a name among rows
abbrev pub request_in : List Row → List ℕ → Option Request
request_in [] name = None
request_in (r ∷ rs) name = cond (same r.name name) (Some r.request) (request_in rs name)

-- the request of a name
unfoldable pub request_named : List ℕ → Option Request
request_named name = request_in requests name

-- a request that a profile does not have: document 02, (m), "`client-list` gets 14 and `help` omits it"
unfoldable pub hidden : ℕ → Request → Bool
hidden profile ClientList = single profile
hidden profile Halt = false
hidden profile Help = false
hidden profile LogLevel = false
hidden profile Restart = false
hidden profile SensorList = false
hidden profile SensorSampling = false
hidden profile SensorValue = false
hidden profile VersionList = false
hidden profile Watchdog = false

-- the code's answer for a name
abbrev pub found : ℕ → Option Request → Option Request
found profile None = None
found profile (Some r) = cond (hidden profile r) None (Some r)

-- document 01's number for it, by the row that asks: "request unknown", 14, of a line's name; "help on unknown name", 23, of an argument
abbrev pub found_number : ℕ → Option Request → ℕ
found_number number (Some r) = 0
found_number number None = number

-- What a line asks: nothing (a blank line, or an inform), or a request of the table, or why it asks none.
pub data Asked : Type 0 where
  Nothing NotMessage Reply : Asked
  Unknown : Message → Asked
  Asks : Request → Message → Asked

-- a request by its name
abbrev pub asked_for : Option Request → Message → Asked
asked_for None m = Unknown m
asked_for (Some r) m = Asks r m

-- by the kind of a message
abbrev pub asked_by : Parse → Asked
asked_by malformed = NotMessage
asked_by (message m) = cond (eqb m.kind (code "#")) Nothing (cond (eqb m.kind (code "!")) Reply (asked_for (request_named m.name) m))

-- "A line of only spaces and tabs, or empty, and any well-formed inform from a client, give number 0, no output, no change"
unfoldable pub asked : List ℕ → Asked
asked line = cond (blank_line line) Nothing (asked_by (parse line))

-- argument k of a request, from 0
abbrev pub argument : Message → ℕ → List ℕ
argument m k = get_or m.args k []

-- the places of all sensors
abbrev pub all_places : Sheet → List ℕ
all_places sheet = tabulate (λ j. j) sheet.count

-- A comma list.

-- a byte before the first of some parts
abbrev pub before : ℕ → List (List ℕ) → List (List ℕ)
before b [] = (b ∷ []) ∷ []
before b (w ∷ ws) = (b ∷ w) ∷ ws

-- "comma list": the parts between the commas
abbrev pub split : List ℕ → List (List ℕ)
split [] = [] ∷ []
split (b ∷ s) = cond (eqb b (code ",")) ([] ∷ split s) (before b (split s))

-- the places of the sensors that a request lists; of a name that no sensor has, the count of the sensors
unfoldable pub listed : Sheet → Message → List ℕ
listed sheet m = map (place_of sheet) (split (argument m 0))

-- the sensors that `sensor-list` and `sensor-value` tell of: without a name all, in sheet order, else "a comma list as `sensor-sampling` does. Informs
-- follow the list's order" (document 02, (a))
unfoldable pub asked_places : Sheet → Message → List ℕ
asked_places sheet m = cond (eqb (length m.args) 0) (all_places sheet) (listed sheet m)

-- the rows of the requests that a profile has
abbrev pub shown_rows : ℕ → List Row
shown_rows profile = only (λ (r : Row). not (hidden profile r.request)) requests

-- the requests that `help` tells of: all of these, or the one that is named
unfoldable pub help_names : ℕ → Message → List (List ℕ)
help_names profile m = cond (eqb (length m.args) 0) (map (λ (r : Row). r.name) (shown_rows profile)) (argument m 0 ∷ [])

-- the level of a word; 8 where no level has it: "off, fatal, error, warn, info, debug, trace, all"
unfoldable pub level_of : List ℕ → ℕ
level_of word = first_below (λ l. same (Messages.level_text l) word) 8

-- `sensor-sampling`.

-- the strategy of a word by its place in `strategy_text`; 7 where no strategy has the word
unfoldable pub strategy_named : List ℕ → ℕ
strategy_named word = first_below (λ k. same (Messages.strategy_text k) word) 7

-- how many parameters a strategy has
abbrev pub parameter_count : ℕ → ℕ
parameter_count k = get_or (0 ∷ 0 ∷ 1 ∷ 0 ∷ 1 ∷ 2 ∷ []) k 3

-- "differential kinds"
abbrev pub by_difference : ℕ → Bool
by_difference k = eqb k 4 || eqb k 6

-- a parameter that cannot be read
abbrev pub is_bad : Option ℕ → Bool
is_bad (Some n) = false
is_bad None = true

-- the number of one that can
abbrev pub number_of : Option ℕ → ℕ
number_of (Some n) = n
number_of None = 0

-- a difference for a sensor
unfoldable pub difference_for : Sensor → List ℕ → Option ℕ
difference_for n t = cond (eqb n.kind 1) (integer_difference_of t) (float_difference_of t)

-- the sensor that a list names first
abbrev pub first_of : Sheet → List ℕ → Sensor
first_of sheet js = sensor_of sheet (get_or js 0 0)

-- "in a list of both types it must suit both"
unfoldable pub difference_of : Sheet → List ℕ → List ℕ → Option ℕ
difference_of sheet js t = cond (any (λ j. is_bad (difference_for (sensor_of sheet j) t)) js) None (difference_for (first_of sheet js) t)

-- the parameters of a strategy in Table 9's order: period; difference; shortest, longest; difference, shortest, longest
unfoldable pub parameters_of : Sheet → List ℕ → ℕ → List (List ℕ) → List (Option ℕ)
parameters_of sheet js k ts =
    cond (eqb k 2) (period_of (get_or ts 0 []) ∷ [])
    (cond (eqb k 4) (difference_of sheet js (get_or ts 0 []) ∷ [])
    (cond (eqb k 5) (shortest_of (get_or ts 0 []) ∷ period_of (get_or ts 1 []) ∷ [])
    (cond (eqb k 6) (difference_of sheet js (get_or ts 0 []) ∷ shortest_of (get_or ts 1 []) ∷ period_of (get_or ts 2 []) ∷ [])
    [])))

-- a strategy from its place in `strategy_text` and the numbers of its parameters
unfoldable pub strategy_by : ℕ → List ℕ → Strategy
strategy_by k ns =
    cond (eqb k 1) Auto
    (cond (eqb k 2) (Period (get_or ns 0 0))
    (cond (eqb k 3) Event
    (cond (eqb k 4) (Differential (get_or ns 0 0))
    (cond (eqb k 5) (EventRate (get_or ns 0 0) (get_or ns 1 0))
    (cond (eqb k 6) (DifferentialRate (get_or ns 0 0) (get_or ns 1 0) (get_or ns 2 0))
    NoStrategy)))))

-- a strategy with the numbers of its parameters' texts, for the sensors at places
unfoldable pub strategy_made : Sheet → List ℕ → ℕ → List (List ℕ) → Strategy
strategy_made sheet js k ts = strategy_by k (map number_of (parameters_of sheet js k ts))

-- shortest over longest
unfoldable pub shortest_over_longest : Strategy → Bool
shortest_over_longest NoStrategy = false
shortest_over_longest Auto = false
shortest_over_longest (Period p) = false
shortest_over_longest Event = false
shortest_over_longest (Differential d) = false
shortest_over_longest (EventRate a b) = ltb b a
shortest_over_longest (DifferentialRate d a b) = ltb b a

-- the strategy that a request names, by its place in `strategy_text`
abbrev pub kind_asked : Message → ℕ
kind_asked m = strategy_named (argument m 1)

-- the strategy that it gives
unfoldable pub strategy_asked : Sheet → Message → Strategy
strategy_asked sheet m = strategy_made sheet (listed sheet m) (kind_asked m) (drop 2 m.args)

-- a pair with a strategy set: "a report replaces the last, and setting none keeps it"
unfoldable pub sampled : ℕ → Sample → Strategy → Subscription → Subscription
sampled clock now st p =
    cond (is_none st)
    (record { strategy = st; reported = p.reported; sample = p.sample; time = p.time })
    (record { strategy = st; reported = true; sample = now; time = clock })

-- client c's pairs for the listed sensors, "All are set"
unfoldable pub sampled_pairs : State → ℕ → List ℕ → Strategy → List Subscription
sampled_pairs s c js st =
    tabulate (λ p. cond (eqb (p / 32) c && has (p % 32) js) (sampled s.clock (present s (p % 32)) st (pair_at s p)) (pair_at s p)) 256

-- "The reply comes first, then, unless none, a report for each name in list order"
unfoldable pub sampled_sends : Sheet → State → ℕ → Message → List ℕ → Strategy → List Delivery
sampled_sends sheet s c m js st =
    to c (Messages.sampling_reply m (argument m 0) (first_of sheet js) st)
    ∷ cond (is_none st) [] (map (λ j. to c (Messages.report_of sheet s j)) js)

-- What a request that is not declined does.

-- sends, and changes nothing
abbrev pub sends_only : State → List Delivery → Work
sends_only s ds = record { sent = ds; next = s }

-- "reply, then `#disconnect` .. to all; all are forgotten"
abbrev pub end_connections : State → ℕ → Message → List ℕ → Bool → ℕ → Work
end_connections s c m why halted level = record {
  sent = to c (Messages.ok_reply m []) ∷ Messages.to_all s (Messages.disconnect why);
  next = emptied s halted level;
}

-- the addresses of the connected among the first n clients, in client order
abbrev pub addresses_below : List Client → ℕ → List (List ℕ)
addresses_below clients n = gather (λ c. one_if (get_or clients c no_client).connected (address_of (get_or clients c no_client))) n

-- of all
unfoldable pub addresses : State → List (List ℕ)
addresses s = addresses_below s.clients 8

-- the level that a request sets, or the present one where it names none
abbrev pub level_asked : State → Message → ℕ
level_asked s m = cond (eqb (length m.args) 0) s.level (level_of (argument m 0))

-- set a strategy, or query the one that is set: "one name alone queries and sends no report"
unfoldable pub sampling : Sheet → State → ℕ → Message → Work
sampling sheet s c m =
    cond (eqb (length m.args) 1)
    (sends_only s (to c (Messages.sampling_reply m (argument m 0) (first_of sheet (listed sheet m)) (pair_of s c (get_or (listed sheet m) 0 0)).strategy) ∷ []))
    (record {
      sent = sampled_sends sheet s c m (listed sheet m) (strategy_asked sheet m);
      next = with_pairs s (sampled_pairs s c (listed sheet m) (strategy_asked sheet m));
    })

-- by the request
unfoldable pub answer : Sheet → State → ℕ → Request → Message → Work
answer sheet s c ClientList m = sends_only s (Messages.counted_answer c m (map (Messages.client_inform m.id) (addresses s)))
answer sheet s c Halt m = end_connections s c m (text "Device halting.") true s.level
answer sheet s c Help m = sends_only s (Messages.counted_answer c m (map (Messages.help_inform m.id) (help_names sheet.profile m)))
answer sheet s c LogLevel m = record { sent = to c (Messages.ok_reply m (Messages.level_text (level_asked s m) ∷ [])) ∷ []; next = with_level s (level_asked s m) }
answer sheet s c Restart m = end_connections s c m (text "Device restarting.") false start_level
answer sheet s c SensorList m = sends_only s (Messages.counted_answer c m (map (λ j. Messages.sensor_inform m.id (sensor_of sheet j)) (asked_places sheet m)))
answer sheet s c SensorSampling m = sampling sheet s c m
answer sheet s c SensorValue m = sends_only s (Messages.counted_answer c m (map (Messages.value_inform m.id s sheet) (asked_places sheet m)))
answer sheet s c VersionList m = sends_only s (Messages.counted_answer c m (map (Messages.version_inform m.id) (Messages.protocol_args sheet.profile ∷ Messages.device_args sheet ∷ [])))
answer sheet s c Watchdog m = sends_only s (to c (Messages.ok_reply m []) ∷ [])
