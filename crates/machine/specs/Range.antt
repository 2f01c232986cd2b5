-- Number 1: "a field outside what the sections above allow, a reading's or report's time .. above the clock, or a strategy but none without a
-- report". A field that document 01's state does not have holds what the blank state has there, so that each state of document 01 is one State.
use Rattle.std.specs.Prelude.{ℕ, ◌/◌, ◌%◌, Bool, true, false, cond, not, ◌&&◌, ◌||◌, List, eqb, leb, ltb, get_or}
use Rattle.output.specs.Read.{in_time, in_difference, in_whole_difference}
use Rattle.value.specs.declared.Sample.{Sample}
use Rattle.value.specs.Reading.{sample_fits}
use Rattle.machine.specs.declared.Sensor.{Sensor}
use Rattle.machine.specs.declared.Sheet.{Sheet}
use Rattle.machine.specs.declared.Strategy.{Strategy}
use Rattle.machine.specs.declared.Strategy.TheVariants.{None, Auto, Period, Event, Differential, EventRate, DifferentialRate}
use Rattle.machine.specs.declared.Subscription.{Subscription}
use Rattle.machine.specs.declared.Stored.{Stored}
use Rattle.machine.specs.declared.Client.{Client}
use Rattle.machine.specs.declared.State.{State}
use Rattle.machine.specs.Places.{all_below}
use Rattle.machine.specs.Sheet.{last_client, sensor_of, graphic, text_ok, sensors_ok, titles_ok, titles_none}
use Rattle.machine.specs.State.{no_stored, no_client, connected, pair_at}

-- a sample that a sensor can have
abbrev pub sample_ok : Sensor → Sample → Bool
sample_ok n x = sample_fits n.kind n.option_count x

-- kind 0 and number 0
abbrev pub sample_none : Sample → Bool
sample_none x = eqb x.kind 0 && eqb x.number 0

-- a reading of a sensor: its time at most the clock
unfoldable pub stored_ok : ℕ → Sensor → Stored → Bool
stored_ok clock n r = sample_ok n r.sample && leb r.time clock

-- a place without a sensor
unfoldable pub stored_none : Stored → Bool
stored_none r = sample_none r.sample && eqb r.time 0

-- "address text (1–48 bytes 0x21–0x7E)", of a connected client
unfoldable pub client_ok : Client → Bool
client_ok k = cond k.connected (text_ok 1 48 graphic k.address_len k.address) (text_ok 0 0 graphic k.address_len k.address)

-- "Periods: 0.001 to 86,400 seconds"
abbrev pub period_ok : ℕ → Bool
period_ok p = leb 1 p && leb p 86400000

-- "(shortest may be 0)"; shortest is not over longest
abbrev pub rates_ok : ℕ → ℕ → Bool
rates_ok shortest longest = leb shortest longest && period_ok longest

-- a difference that suits a sensor of a type: "integer .. to 4,294,967,295; float to 2,097,152"; no other type has one
unfoldable pub difference_ok : ℕ → ℕ → Bool
difference_ok t d = cond (eqb t 1) (in_whole_difference d) (eqb t 2 && in_difference d)

-- a strategy that a sensor of a type can have
unfoldable pub strategy_ok : ℕ → Strategy → Bool
strategy_ok t None = true
strategy_ok t Auto = true
strategy_ok t (Period p) = period_ok p
strategy_ok t Event = true
strategy_ok t (Differential d) = difference_ok t d
strategy_ok t (EventRate a b) = rates_ok a b
strategy_ok t (DifferentialRate d a b) = difference_ok t d && rates_ok a b

-- none
unfoldable pub is_none : Strategy → Bool
is_none None = true
is_none Auto = false
is_none (Period p) = false
is_none Event = false
is_none (Differential d) = false
is_none (EventRate a b) = false
is_none (DifferentialRate d a b) = false

-- a subscription without a report has no strategy: "a strategy but none without a report" is out of range
unfoldable pub pair_none : Subscription → Bool
pair_none p = not p.reported && (is_none p.strategy && (sample_none p.sample && eqb p.time 0))

-- a subscription with a report
unfoldable pub pair_reported : ℕ → Sensor → Subscription → Bool
pair_reported clock n p = p.reported && (strategy_ok n.kind p.strategy && (sample_ok n p.sample && leb p.time clock))

-- the reading at a place of the sheet
unfoldable pub stored_ok_at : Sheet → ℕ → List Stored → ℕ → Bool
stored_ok_at sheet clock rs j = cond (ltb j sheet.count) (stored_ok clock (sensor_of sheet j) (get_or rs j no_stored)) (stored_none (get_or rs j no_stored))

-- the subscription at a place: only that of a connected client to a sensor on the sheet can have a report
unfoldable pub pair_ok_at : State → ℕ → Bool
pair_ok_at s p =
    pair_none (pair_at s p)
    || (connected s (p / 32) && (ltb (p % 32) s.sheet.count && pair_reported s.clock (sensor_of s.sheet (p % 32)) (pair_at s p)))

-- the client of a number
abbrev pub client_ok_at : List Client → ℕ → Bool
client_ok_at ks c = client_ok (get_or ks c no_client)

-- no client is connected
unfoldable pub no_clients : List Client → Bool
no_clients ks = all_below (λ c. not (get_or ks c no_client).connected) 8

-- what, in range, only the blank state has: empty texts, with no sensors, profile 0, no clients, halted, level off and the clock at 0
unfoldable pub is_blank : State → Bool
is_blank s =
    titles_none s.sheet
    && (eqb s.sheet.count 0
    && (eqb s.sheet.profile 0 && (no_clients s.clients && (s.halted && (eqb s.level 0 && eqb s.clock 0)))))

-- no client above the highest is connected: document 02, (m), "a state of it with another client connected gets 1"
unfoldable pub clients_within : ℕ → List Client → Bool
clients_within last ks = all_below (λ c. leb c last || not (get_or ks c no_client).connected) 8

-- document 02, (m): the profile is "0 for the present behaviour or 1 for single-client"
unfoldable pub profile_ok : State → Bool
profile_ok s = leb s.sheet.profile 1 && clients_within (last_client s.sheet.profile) s.clients

-- every field within what document 01 allows
unfoldable pub in_range : State → Bool
in_range s =
    (titles_ok s.sheet || is_blank s)
    && (profile_ok s
    && (sensors_ok s.sheet
    && (in_time s.clock
    && (leb s.level 7
    && (all_below (stored_ok_at s.sheet s.clock s.readings) 32
    && (all_below (client_ok_at s.clients) 8
    && all_below (pair_ok_at s) 256))))))
