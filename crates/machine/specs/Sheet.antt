-- Document 01, "Sheet": a sensor and its texts, and the rules that a sheet keeps.
use Rattle.std.specs.Prelude.{ℕ, Bool, cond, not, ◌&&◌, ◌||◌, List, [], eqb, leb, ltb, length, get_or, take, drop}
use Rattle.output.specs.Text.{same, all}
use Rattle.output.specs.Read.{in_integer, in_float}
unfoldable pub use Rattle.texts.specs.Class.{name_byte}
use Rattle.value.specs.declared.Limits.{Limits}
use Rattle.value.specs.Reading.{is_measured}
use Rattle.machine.specs.declared.Choice.{Choice}
use Rattle.machine.specs.declared.Sensor.{Sensor}
use Rattle.machine.specs.declared.Sheet.{Sheet}
use Rattle.machine.specs.Places.{all_below, first_below}

-- no limits
abbrev pub no_limits : Limits
no_limits = record { count = 0; nominal_min = 0; nominal_max = 0; warn_min = 0; warn_max = 0 }

-- what a place past the end of a list of options gives
abbrev pub no_choice : Choice
no_choice = record { text = []; len = 0 }

-- what a place past the end of a list of sensors gives
abbrev pub no_sensor : Sensor
no_sensor = record { name = []; name_len = 0; description = []; description_len = 0; units = []; units_len = 0; kind = 0; limits = no_limits; option_count = 0; options = [] }

-- the sensor at a place of the sheet, from 0
abbrev pub sensor_of : Sheet → ℕ → Sensor
sensor_of sheet j = get_or sheet.sensors j no_sensor

-- a sensor's name
abbrev pub name_of : Sensor → List ℕ
name_of n = take n.name_len n.name

-- its description
abbrev pub description_of : Sensor → List ℕ
description_of n = take n.description_len n.description

-- its units
abbrev pub units_of : Sensor → List ℕ
units_of n = take n.units_len n.units

-- an option of it, by "its place in the list, from 0"
abbrev pub option_of : Sensor → ℕ → List ℕ
option_of n k = take (get_or n.options k no_choice).len (get_or n.options k no_choice).text

-- the sheet's API text
abbrev pub api_of : Sheet → List ℕ
api_of sheet = take sheet.api_len sheet.api

-- its build text
abbrev pub build_of : Sheet → List ℕ
build_of sheet = take sheet.build_len sheet.build

-- the place of the sensor with a name, or the count of the sensors where none has it
unfoldable pub place_of : Sheet → List ℕ → ℕ
place_of sheet name = first_below (λ j. same (name_of (sensor_of sheet j)) name) sheet.count

-- a sensor of that place is not on the sheet
abbrev pub not_on_sheet : Sheet → ℕ → Bool
not_on_sheet sheet j = leb sheet.count j

-- The profile.

-- document 02, (m): "1 for single-client"
abbrev pub single : ℕ → Bool
single profile = eqb profile 1

-- the highest client: document 01, "clients 0–7"; document 02, (m), "Profile 1 .. has client 0 only"
abbrev pub last_client : ℕ → ℕ
last_client profile = cond (single profile) 0 7

-- Bytes and texts.

-- "bytes 0x21–0x7E"
unfoldable pub graphic : ℕ → Bool
graphic b = leb 0x21 b && leb b 0x7E

-- "bytes 0x20–0x7E"
unfoldable pub printable : ℕ → Bool
printable b = leb 0x20 b && leb b 0x7E

-- byte 0
abbrev pub zero_byte : ℕ → Bool
zero_byte b = eqb b 0

-- a text of so many bytes at least and at most, each of a kind; the rest of its array is zero
unfoldable pub text_ok : ℕ → ℕ → (ℕ → Bool) → ℕ → List ℕ → Bool
text_ok least most is len bytes = leb least len && (leb len most && (all is (take len bytes) && all zero_byte (drop len bytes)))

-- a text that is handed over as it is: so many bytes at least and at most, each of a kind
unfoldable pub text_fits : ℕ → ℕ → (ℕ → Bool) → List ℕ → Bool
text_fits least most is t = leb least (length t) && (leb (length t) most && all is t)

-- texts at the places below n, "all distinct"
unfoldable pub distinct : (ℕ → List ℕ) → ℕ → Bool
distinct text n = all_below (λ j. all_below (λ i. not (same (text i) (text j))) j) n

-- Limits: "signed 32-bit numbers: nominal-min, nominal-max, warn-min, warn-max", stored as values are.

-- a limit of a type: "Type 2 counts 1024ths, within ±2^30"
abbrev pub limit_ok : ℕ → ℕ → Bool
limit_ok t n = cond (eqb t 1) (in_integer n) (in_float n)

-- none
unfoldable pub limits_none : Limits → Bool
limits_none l =
    eqb l.count 0
    && (eqb l.nominal_min 0 && (eqb l.nominal_max 0 && (eqb l.warn_min 0 && eqb l.warn_max 0)))

-- two: "nominal-min ≤ nominal-max"
unfoldable pub limits_two : ℕ → Limits → Bool
limits_two t l =
    eqb l.count 2
    && (limit_ok t l.nominal_min && (limit_ok t l.nominal_max
    && (leb l.nominal_min l.nominal_max && (eqb l.warn_min 0 && eqb l.warn_max 0))))

-- four: "warn-min ≤ nominal-min ≤ nominal-max ≤ warn-max"
unfoldable pub limits_four : ℕ → Limits → Bool
limits_four t l =
    eqb l.count 4
    && (limit_ok t l.nominal_min && (limit_ok t l.nominal_max && (limit_ok t l.warn_min && (limit_ok t l.warn_max
    && (leb l.warn_min l.nominal_min
    && (leb l.nominal_min l.nominal_max && leb l.nominal_max l.warn_max))))))

-- "Types 1, 2: a byte 0, 2 or 4, then so many"; the others have none
unfoldable pub limits_ok : ℕ → Limits → Bool
limits_ok t l = limits_none l || (is_measured t && (limits_two t l || limits_four t l))

-- Options.

-- a place that holds no option
unfoldable pub choice_none : Choice → Bool
choice_none o = eqb o.len 0 && all zero_byte o.text

-- place k of so many options: "options 1–16 name bytes"
unfoldable pub choice_ok : ℕ → ℕ → Choice → Bool
choice_ok count k o = cond (ltb k count) (text_ok 1 16 name_byte o.len o.text) (choice_none o)

-- "Type 4: option count 1–8, options 1–16 name bytes, distinct"; the others have none
unfoldable pub options_ok : Sensor → Bool
options_ok n =
    cond (eqb n.kind 4) (leb 1 n.option_count && leb n.option_count 8) (eqb n.option_count 0)
    && (all_below (λ k. choice_ok n.option_count k (get_or n.options k no_choice)) 8
    && distinct (option_of n) n.option_count)

-- Sensors and the sheet.

-- "Each sensor: name (..1–32; a-z A-Z 0-9 . - _ ..), description (0–64) and units (0–8) of bytes 0x20–0x7E, type 1 integer, 2 float, 3 boolean, 4 discrete, 5 timestamp"
unfoldable pub sensor_ok : Sensor → Bool
sensor_ok n =
    text_ok 1 32 name_byte n.name_len n.name
    && (text_ok 0 64 printable n.description_len n.description
    && (text_ok 0 8 printable n.units_len n.units
    && ((leb 1 n.kind && leb n.kind 5)
    && (limits_ok n.kind n.limits && options_ok n))))

-- a place that holds no sensor
unfoldable pub sensor_none : Sensor → Bool
sensor_none n =
    text_ok 0 0 name_byte n.name_len n.name
    && (text_ok 0 0 printable n.description_len n.description
    && (text_ok 0 0 printable n.units_len n.units
    && (eqb n.kind 0
    && (limits_none n.limits
    && (eqb n.option_count 0 && all_below (λ k. choice_none (get_or n.options k no_choice)) 8)))))

-- a place of the sheet: a sensor below the count, none from there on
abbrev pub sensor_ok_at : Sheet → ℕ → Bool
sensor_ok_at sheet j = cond (ltb j sheet.count) (sensor_ok (sensor_of sheet j)) (sensor_none (sensor_of sheet j))

-- "Sensor count 0–32", each sensor, names "all distinct"
unfoldable pub sensors_ok : Sheet → Bool
sensors_ok sheet =
    leb sheet.count 32
    && (all_below (sensor_ok_at sheet) 32
    && distinct (λ j. name_of (sensor_of sheet j)) sheet.count)

-- "API text and build text: length byte 1–32, bytes 0x21–0x7E"
unfoldable pub titles_ok : Sheet → Bool
titles_ok sheet = text_ok 1 32 graphic sheet.api_len sheet.api && text_ok 1 32 graphic sheet.build_len sheet.build

-- "empty texts", of the blank state
unfoldable pub titles_none : Sheet → Bool
titles_none sheet = text_ok 0 0 graphic sheet.api_len sheet.api && text_ok 0 0 graphic sheet.build_len sheet.build

-- every rule of the section
unfoldable pub sheet_ok : Sheet → Bool
sheet_ok sheet = titles_ok sheet && sensors_ok sheet
