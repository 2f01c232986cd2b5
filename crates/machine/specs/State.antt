-- Document 01, "Machine": the state, its parts by client and sensor, and how calls write it anew.
use Rattle.std.specs.Prelude.{ℕ, ◌+◌, ◌*◌, ◌/◌, ◌-◌, Bool, true, false, cond, ◌||◌, List, [], ◌++◌, eqb, leb, ltb, length, get_or, take, replicate}
use Rattle.value.specs.declared.Sample.{Sample}
use Rattle.value.specs.Reading.{sample, fresh as fresh_sample}
use Rattle.machine.specs.declared.Choice.{Choice}
use Rattle.machine.specs.declared.Sensor.{Sensor}
use Rattle.machine.specs.declared.Sheet.{Sheet}
use Rattle.machine.specs.declared.Strategy.TheVariants.{None}
use Rattle.machine.specs.declared.Subscription.{Subscription}
use Rattle.machine.specs.declared.Stored.{Stored}
use Rattle.machine.specs.declared.Client.{Client}
use Rattle.machine.specs.declared.State.{State}
use Rattle.machine.specs.Places.{tabulate}
use Rattle.machine.specs.Sheet.{no_limits, sensor_of}

-- "Every pair starts as none, without a report"
abbrev pub no_subscription : Subscription
no_subscription = record { strategy = None; reported = false; sample = sample 0 0; time = 0 }

-- a reading of no sensor
abbrev pub no_stored : Stored
no_stored = record { sample = sample 0 0; time = 0 }

-- what a place past the end of the clients gives
abbrev pub no_client : Client
no_client = record { connected = false; address = []; address_len = 0 }

-- a sensor's reading and its time
abbrev pub stored_of : State → ℕ → Stored
stored_of s j = get_or s.readings j no_stored

-- the present reading of a sensor
abbrev pub present : State → ℕ → Sample
present s j = (stored_of s j).sample

-- a client
abbrev pub client_of : State → ℕ → Client
client_of s c = get_or s.clients c no_client

-- whether a client is connected
abbrev pub connected : State → ℕ → Bool
connected s c = (client_of s c).connected

-- the address text of a client
abbrev pub address_of : Client → List ℕ
address_of k = take k.address_len k.address

-- the subscription at a place, document 01's "pair": that of client p / 32 and sensor p % 32
abbrev pub pair_at : State → ℕ → Subscription
pair_at s p = get_or s.subscriptions p no_subscription

-- the pair of client c and sensor j
abbrev pub pair_of : State → ℕ → ℕ → Subscription
pair_of s c j = pair_at s (c * 32 + j)

-- The state anew. No other file writes a state out.

-- the clock set
abbrev pub with_clock : State → ℕ → State
with_clock s t = record { sheet = s.sheet; clock = t; halted = s.halted; level = s.level; readings = s.readings; clients = s.clients; subscriptions = s.subscriptions }

-- the log level set
abbrev pub with_level : State → ℕ → State
with_level s l = record { sheet = s.sheet; clock = s.clock; halted = s.halted; level = l; readings = s.readings; clients = s.clients; subscriptions = s.subscriptions }

-- other readings
abbrev pub with_readings : State → List Stored → State
with_readings s l = record { sheet = s.sheet; clock = s.clock; halted = s.halted; level = s.level; readings = l; clients = s.clients; subscriptions = s.subscriptions }

-- other subscriptions
abbrev pub with_pairs : State → List Subscription → State
with_pairs s l = record { sheet = s.sheet; clock = s.clock; halted = s.halted; level = s.level; readings = s.readings; clients = s.clients; subscriptions = l }

-- other clients and subscriptions
abbrev pub with_clients : State → List Client → List Subscription → State
with_clients s cs l = record { sheet = s.sheet; clock = s.clock; halted = s.halted; level = s.level; readings = s.readings; clients = cs; subscriptions = l }

-- an unconnected client
abbrev pub blank_client : Client
blank_client = record { connected = false; address = replicate 48 0; address_len = 0 }

-- a connected client
abbrev pub client_at : List ℕ → Client
client_at address = record { connected = true; address = address ++ replicate (48 - length address) 0; address_len = length address }

-- client c is now k, and has no strategy and no report
unfoldable pub with_client : State → ℕ → Client → State
with_client s c k =
    with_clients s (tabulate (λ i. cond (eqb i c) k (client_of s i)) 8) (tabulate (λ p. cond (eqb (p / 32) c) no_subscription (pair_at s p)) 256)

-- "all are forgotten", with the halted flag and the log level set
abbrev pub emptied : State → Bool → ℕ → State
emptied s halted level = record { sheet = s.sheet; clock = s.clock; halted = halted; level = level; readings = s.readings; clients = replicate 8 blank_client; subscriptions = replicate 256 no_subscription }

-- a sensor is given a reading
unfoldable pub with_reading : State → ℕ → Stored → State
with_reading s j x = with_readings s (tabulate (λ i. cond (eqb i j) x (stored_of s i)) 32)

-- the status is unknown: quality 0 has that status, and no other
abbrev pub is_unknown : Sample → Bool
is_unknown x = eqb x.kind 0

-- whether a reading of time t supersedes the stored one: document 02, (g), "if its time is equal or later, or if the stored status is unknown"
unfoldable pub supersedes : ℕ → Stored → Bool
supersedes t old = leb old.time t || is_unknown old.sample

-- Opening.

-- the log level of a fresh device and of a restarted one, info in document 01: document 02, (e), "A fresh device and a restarted one start at warn."
abbrev pub start_level : ℕ
start_level = 3

-- "A fresh sensor is unknown at time 0": the reading at a place, where a sensor of that type is there
abbrev pub fresh_stored : Bool → ℕ → Stored
fresh_stored there t = cond there (record { sample = fresh_sample t; time = 0 }) no_stored

-- the readings of a fresh device
unfoldable pub fresh_readings : Sheet → List Stored
fresh_readings sheet = tabulate (λ j. fresh_stored (ltb j sheet.count) (sensor_of sheet j).kind) 32

-- the state that opening a sheet returns: "clock (0), halted flag (clear), log level", see above, readings, and "unconnected (all at first)"
abbrev pub fresh : Sheet → State
fresh sheet = record { sheet = sheet; clock = 0; halted = false; level = start_level; readings = fresh_readings sheet; clients = replicate 8 blank_client; subscriptions = replicate 256 no_subscription }

-- a place without an option
abbrev pub blank_choice : Choice
blank_choice = record { text = replicate 16 0; len = 0 }

-- a place without a sensor
abbrev pub blank_sensor : Sensor
blank_sensor = record { name = replicate 32 0; name_len = 0; description = replicate 64 0; description_len = 0; units = replicate 8 0; units_len = 0; kind = 0; limits = no_limits; option_count = 0; options = replicate 8 blank_choice }

-- a sheet of no sensors and empty texts
abbrev pub blank_sheet : Sheet
blank_sheet = record { api = replicate 32 0; api_len = 0; build = replicate 32 0; build_len = 0; count = 0; profile = 0; sensors = replicate 32 blank_sensor }

-- "The blank state (halted, level off, no sensors, no clients, empty texts, all else zero)"
abbrev pub blank : State
blank = record { sheet = blank_sheet; clock = 0; halted = true; level = 0; readings = replicate 32 no_stored; clients = replicate 8 blank_client; subscriptions = replicate 256 no_subscription }
