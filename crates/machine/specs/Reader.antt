-- A reader of the unit's messages: what a report or a sampling reply tells, or that no device of this sheet writes it. What it makes of a
-- client's messages is what the unit holds for that client (Claims.antt, `Viewed`).
use Rattle.std.specs.Prelude.{ℕ, ◌+◌, Bool, cond, not, ◌&&◌, List, [], ◌∷◌, map, eqb, leb, ltb, length, get_or, drop, Option, None, Some}
use Prim.Native.Char.{code}
use Rattle.output.specs.Text.{text, same, all}
use Rattle.output.specs.Read.{read_time, read_integer, read_float, read_boolean, read_difference, read_whole_difference}
use Rattle.message.specs.Message.{Message}
use Rattle.value.specs.declared.Sample.{Sample}
use Rattle.value.specs.Reading.{zero_of}
use Rattle.value.specs.Status.{range_status, status_text}
use Rattle.machine.specs.declared.Sensor.{Sensor}
use Rattle.machine.specs.declared.Sheet.{Sheet}
use Rattle.machine.specs.declared.Strategy.{Strategy}
use Rattle.machine.specs.declared.Strategy.TheVariants.{None as NoStrategy}
use Rattle.machine.specs.declared.Subscription.{Subscription}
use Rattle.machine.specs.declared.State.{State}
use Rattle.machine.specs.Places.{any, first_below, has, twice}
use Rattle.machine.specs.Sheet.{sensor_of, option_of, place_of, not_on_sheet}
use Rattle.machine.specs.State.{pair_of}
use Rattle.machine.specs.Range.{strategy_ok}
use Rattle.machine.specs.Messages.{status_for}
use Rattle.machine.specs.Requests.{argument, split, strategy_named, parameter_count, strategy_by, first_of}

-- a report: "the clock, status and value", these as the number of Table 8 and the stored number
pub record Told : Type 0 where
  pub time : ℕ
  pub status : ℕ
  pub value : ℕ

-- a report by its parts
abbrev pub told : ℕ → ℕ → ℕ → Told
told time status value = record { time = time; status = status; value = value }

-- what a message tells: nothing of subscriptions, or a report of a sensor, or the strategy of sensors, or what no device of this sheet writes
pub data News : Type 0 where
  Other Impossible : News
  Reported : ℕ → Told → News
  SetTo : List ℕ → Strategy → News

-- Reports, in layers: by the message alone; by the sensor's name and type; by the sheet's limits.

-- a report by its parts, as written: its time, its sensor's name, its status by the number of Table 8, its value's text; on no sheet
pub record Parts : Type 0 where
  pub time : ℕ
  pub name : List ℕ
  pub status : ℕ
  pub value : List ℕ

-- the status of a word by its number in Table 8; 7 where no status has the word
unfoldable pub status_named : List ℕ → ℕ
status_named word = first_below (λ k. same (status_text k) word) 7

-- clock, `1`, name, status, value, and no id
unfoldable pub is_shaped : Message → Bool
is_shaped m = eqb (length m.args) 5 && (eqb m.id 0 && (same (argument m 1) (text "1") && ltb (status_named (argument m 3)) 7))

-- the parts of a message by its time, where that can be read
abbrev pub parts_with : Message → Option ℕ → Option Parts
parts_with m None = None
parts_with m (Some t) = Some (record { time = t; name = argument m 2; status = status_named (argument m 3); value = argument m 4 })

-- the first layer: the parts of a message that has the shape of a report
unfoldable pub parts_of : Message → Option Parts
parts_of m = cond (is_shaped m) (parts_with m (read_time (argument m 0))) None

-- the place of an option
unfoldable pub option_named : Sensor → List ℕ → ℕ
option_named n t = first_below (λ k. same (option_of n k) t) n.option_count

-- an option of a sensor
unfoldable pub read_option : Sensor → List ℕ → Option ℕ
read_option n t = cond (ltb (option_named n t) n.option_count) (Some (option_named n t)) None

-- a value of a sensor as it is written
unfoldable pub read_value : Sensor → List ℕ → Option ℕ
read_value n t =
    cond (eqb n.kind 1) (read_integer t)
    (cond (eqb n.kind 2) (read_float t)
    (cond (eqb n.kind 3) (read_boolean t)
    (cond (eqb n.kind 4) (read_option n t)
    (read_time t))))

-- a report of sensor j, by its value, where that can be read
abbrev pub valued : ℕ → Parts → Option ℕ → News
valued j p None = Impossible
valued j p (Some v) = Reported j (told p.time p.status v)

-- the second layer: the sensor of that name, and its value by the sensor's type and options
unfoldable pub report_on : Sheet → Parts → News
report_on sheet p =
    cond (ltb (place_of sheet p.name) sheet.count)
    (valued (place_of sheet p.name) p (read_value (sensor_of sheet (place_of sheet p.name)) p.value))
    Impossible

-- no report where the message has not the parts of one
abbrev pub report_from : Sheet → Option Parts → News
report_from sheet None = Impossible
report_from sheet (Some p) = report_on sheet p

-- both layers: a report by the sensor's name, type and options
unfoldable pub report_read : Sheet → Message → News
report_read sheet m = report_from sheet (parts_of m)

-- a valid status
abbrev pub valid_status : ℕ → Bool
valid_status st = leb 1 st && leb st 3

-- a value that a status can come with: by the limits where it is valid, else the type's zero
unfoldable pub agrees : Sensor → ℕ → ℕ → Bool
agrees n st v = cond (valid_status st) (eqb (range_status n.limits v) st) (eqb v (zero_of n.kind))

-- the third layer: a report that agrees with the sensor's limits
unfoldable pub agreed : Sheet → News → News
agreed sheet Other = Other
agreed sheet Impossible = Impossible
agreed sheet (Reported j r) = cond (agrees (sensor_of sheet j) r.status r.value) (Reported j r) Impossible
agreed sheet (SetTo js st) = SetTo js st

-- Sampling replies.

-- a difference as it is written for a sensor
unfoldable pub read_difference_for : Sensor → List ℕ → Option ℕ
read_difference_for n t = cond (eqb n.kind 1) (read_whole_difference t) (read_difference t)

-- the parameters of a strategy as they are written for a sensor
unfoldable pub parameters_read : Sensor → ℕ → List (List ℕ) → List (Option ℕ)
parameters_read n k ts =
    cond (eqb k 2) (read_time (get_or ts 0 []) ∷ [])
    (cond (eqb k 4) (read_difference_for n (get_or ts 0 []) ∷ [])
    (cond (eqb k 5) (read_time (get_or ts 0 []) ∷ read_time (get_or ts 1 []) ∷ [])
    (cond (eqb k 6) (read_difference_for n (get_or ts 0 []) ∷ read_time (get_or ts 1 []) ∷ read_time (get_or ts 2 []) ∷ [])
    [])))

-- a number before others, where all could be read
abbrev pub and_number : Option ℕ → Option (List ℕ) → Option (List ℕ)
and_number None ns = None
and_number (Some n) None = None
and_number (Some n) (Some ns) = Some (n ∷ ns)

-- all of them, where all could be read
abbrev pub all_numbers : List (Option ℕ) → Option (List ℕ)
all_numbers [] = Some []
all_numbers (o ∷ os) = and_number o (all_numbers os)

-- a strategy that each of the sensors can have
abbrev pub set_with : Sheet → List ℕ → ℕ → Option (List ℕ) → News
set_with sheet js k None = Impossible
set_with sheet js k (Some ns) = cond (all (λ j. strategy_ok (sensor_of sheet j).kind (strategy_by k ns)) js) (SetTo js (strategy_by k ns)) Impossible

-- a strategy of listed sensors, from the arguments behind the names
unfoldable pub strategy_news : Sheet → List ℕ → List (List ℕ) → News
strategy_news sheet js args =
    cond (not (any (not_on_sheet sheet) js) && (not (twice js)
    && (ltb (strategy_named (get_or args 0 [])) 7 && eqb (length args) (1 + parameter_count (strategy_named (get_or args 0 []))))))
    (set_with sheet js (strategy_named (get_or args 0 [])) (all_numbers (parameters_read (first_of sheet js) (strategy_named (get_or args 0 [])) (drop 1 args))))
    Impossible

-- `ok`, names, strategy, parameters
unfoldable pub sampling_news : Sheet → Message → News
sampling_news sheet m = strategy_news sheet (map (place_of sheet) (split (argument m 1))) (drop 2 m.args)

-- Messages.

-- a message of a kind and a name
abbrev pub is_named : ℕ → List ℕ → Message → Bool
is_named kind name m = eqb m.kind kind && same m.name name

-- a reply of success to a request of a name: "answered `ok`"
abbrev pub is_ok : List ℕ → Message → Bool
is_ok name m = is_named (code "!") name m && same (argument m 0) (text "ok")

-- what a message tells
unfoldable pub news : Sheet → Message → News
news sheet m =
    cond (is_named (code "#") (text "sensor-status") m) (agreed sheet (report_read sheet m))
    (cond (is_ok (text "sensor-sampling") m) (sampling_news sheet m)
    Other)

-- The standing of a sensor for a client: its strategy and last report.

-- as the messages tell it
pub record View : Type 0 where
  pub strategy : Strategy
  pub last : Option Told

-- "Every pair starts as none, without a report"
abbrev pub no_view : View
no_view = record { strategy = NoStrategy; last = None }

-- after news, for sensor j
unfoldable pub view_after : ℕ → News → View → View
view_after j Other v = v
view_after j Impossible v = v
view_after j (Reported k r) v = cond (eqb k j) (record { strategy = v.strategy; last = Some r }) v
view_after j (SetTo js st) v = cond (has j js) (record { strategy = st; last = v.last }) v

-- after messages, one after another
unfoldable pub view_by : Sheet → ℕ → List Message → View → View
view_by sheet j [] v = v
view_by sheet j (m ∷ ms) v = view_by sheet j ms (view_after j (news sheet m) v)

-- a sample at a time, as a report tells it
abbrev pub told_of : Sensor → ℕ → Sample → Told
told_of n t x = told t (status_for n x) x.number

-- as the unit holds it
abbrev pub view_of : Sensor → Subscription → View
view_of n p = record { strategy = p.strategy; last = cond p.reported (Some (told_of n p.time p.sample)) None }

-- of client a and sensor j
abbrev pub standing : Sheet → State → ℕ → ℕ → View
standing sheet s a j = view_of (sensor_of sheet j) (pair_of s a j)
