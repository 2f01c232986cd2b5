-- Document 01, "Sheet": how a sheet is read, and the state that opening it returns. The layout is read here; the rules that the parts keep are
-- those of Sheet.antt, which the state check asks too.
use Rattle.std.specs.Prelude.{ℕ, zero, suc, ◌-◌, cond, ◌||◌, List, [], ◌∷◌, ◌++◌, eqb, leb, length, take, drop, replicate, Some, None, Option}
use Rattle.output.specs.Text.{text, same}
use Rattle.value.specs.declared.Limits.{Limits}
use Rattle.value.specs.Double.{within_signed}
use Rattle.value.specs.Integer.{biased_integer, signed_in}
use Rattle.machine.specs.declared.Choice.{Choice}
use Rattle.machine.specs.declared.Sensor.{Sensor}
use Rattle.machine.specs.declared.Sheet.{Sheet}
use Rattle.machine.specs.declared.Opened.{Opened}
use Rattle.machine.specs.Sheet.{no_limits, sheet_ok}
use Rattle.machine.specs.State.{fresh, blank, blank_choice, blank_sensor}

-- what is read at the start of some bytes, and the bytes that follow; or a fault
pub data Taken (A : Type 0) : Type 0 where
  broken : Taken A
  taken : A → List ℕ → Taken A

module _ {A B : Type 0} where
  -- read on with the bytes that follow
  abbrev pub and_then : Taken A → (A → List ℕ → Taken B) → Taken B
  and_then broken f = broken
  and_then (taken x rest) f = f x rest

module _ {A : Type 0} where
  -- so many of a kind, one after another
  unfoldable pub many_at : (List ℕ → Taken A) → ℕ → List ℕ → Taken (List A)
  many_at one zero s = taken [] s
  many_at one (suc k) s = and_then (one s) (λ x rest. and_then (many_at one k rest) (λ xs q. taken (x ∷ xs) q))

-- one byte
abbrev pub byte_at : List ℕ → Taken ℕ
byte_at [] = broken
byte_at (b ∷ rest) = taken b rest

-- n bytes
unfoldable pub bytes_at : ℕ → List ℕ → Taken (List ℕ)
bytes_at n s = cond (leb n (length s)) (taken (take n s) (drop n s)) broken

-- a text: "length byte, as for every text here", then so many bytes; a fault where it is longer than its array
unfoldable pub text_at : ℕ → List ℕ → Taken (List ℕ)
text_at most s = and_then (byte_at s) (λ n rest. cond (leb n most) (bytes_at n rest) broken)

-- a text in an array of n bytes
abbrev pub padded : ℕ → List ℕ → List ℕ
padded n t = t ++ replicate (n - length t) 0

-- a limit of type 2, which "counts 1024ths, within ±2^30"
abbrev pub on_grid : Option ℕ → List ℕ → Taken ℕ
on_grid (Some n) rest = taken n rest
on_grid None rest = broken

-- a "signed 32-bit" number, as a limit of type t is stored
unfoldable pub limit_at : ℕ → List ℕ → Taken ℕ
limit_at t s =
    and_then (bytes_at 4 s) (λ w rest. cond (eqb t 1) (taken (biased_integer (signed_in w)) rest) (on_grid (within_signed (signed_in w)) rest))

-- two limits
unfoldable pub two_at : ℕ → List ℕ → Taken Limits
two_at t s =
    and_then (limit_at t s) (λ a r. and_then (limit_at t r) (λ b q.
    taken (record { count = 2; nominal_min = a; nominal_max = b; warn_min = 0; warn_max = 0 }) q))

-- four limits
unfoldable pub four_at : ℕ → List ℕ → Taken Limits
four_at t s =
    and_then (limit_at t s) (λ a r. and_then (limit_at t r) (λ b q. and_then (limit_at t q) (λ c p. and_then (limit_at t p) (λ d o.
    taken (record { count = 4; nominal_min = a; nominal_max = b; warn_min = c; warn_max = d }) o))))

-- "a byte 0, 2 or 4, then so many"
unfoldable pub limits_at : ℕ → List ℕ → Taken Limits
limits_at t s =
    and_then (byte_at s) (λ n rest. cond (eqb n 0) (taken no_limits rest) (cond (eqb n 2) (two_at t rest) (cond (eqb n 4) (four_at t rest) broken)))

-- an option
unfoldable pub choice_at : List ℕ → Taken Choice
choice_at s = and_then (text_at 16 s) (λ t rest. taken (record { text = padded 16 t; len = length t }) rest)

-- "option count", then so many; a fault where there are more than eight
unfoldable pub options_at : List ℕ → Taken (List Choice)
options_at s = and_then (byte_at s) (λ k rest. cond (leb k 8) (many_at choice_at k rest) broken)

-- a sensor by its texts and its type, without limits and options
abbrev pub sensor : List ℕ → List ℕ → List ℕ → ℕ → Sensor
sensor name description units t = record {
  name = padded 32 name;
  name_len = length name;
  description = padded 64 description;
  description_len = length description;
  units = padded 8 units;
  units_len = length units;
  kind = t;
  limits = no_limits;
  option_count = 0;
  options = replicate 8 blank_choice;
}

-- the sensor with limits
abbrev pub with_limits : Sensor → Limits → Sensor
with_limits n l = record { name = n.name; name_len = n.name_len; description = n.description; description_len = n.description_len; units = n.units; units_len = n.units_len; kind = n.kind; limits = l; option_count = n.option_count; options = n.options }

-- the sensor with options
abbrev pub with_options : Sensor → List Choice → Sensor
with_options n os = record { name = n.name; name_len = n.name_len; description = n.description; description_len = n.description_len; units = n.units; units_len = n.units_len; kind = n.kind; limits = n.limits; option_count = length os; options = os ++ replicate (8 - length os) blank_choice }

-- "Each sensor: name .., description (0–64) and units (0–8) .., type"
unfoldable pub head_at : List ℕ → Taken Sensor
head_at s =
    and_then (text_at 32 s) (λ name r. and_then (text_at 64 r) (λ description q. and_then (text_at 8 q) (λ units p. and_then (byte_at p) (λ t o.
    taken (sensor name description units t) o))))

-- what follows the type: limits of types 1 and 2, options of type 4, nothing of types 3 and 5
unfoldable pub rest_at : Sensor → List ℕ → Taken Sensor
rest_at n s =
    cond (eqb n.kind 1 || eqb n.kind 2) (and_then (limits_at n.kind s) (λ l rest. taken (with_limits n l) rest))
    (cond (eqb n.kind 4) (and_then (options_at s) (λ os rest. taken (with_options n os) rest))
    (cond (eqb n.kind 3 || eqb n.kind 5) (taken n s)
    broken))

-- a sensor
unfoldable pub sensor_at : List ℕ → Taken Sensor
sensor_at s = and_then (head_at s) rest_at

-- a sheet by its parts; the profile is not among its bytes
abbrev pub sheet_by : List ℕ → List ℕ → List Sensor → Sheet
sheet_by api build ns = record {
  api = padded 32 api;
  api_len = length api;
  build = padded 32 build;
  build_len = length build;
  count = length ns;
  profile = 0;
  sensors = ns ++ replicate (32 - length ns) blank_sensor;
}

-- "Mark `LGU`, 16-bit version 1 (big-endian ..)"
abbrev pub mark : List ℕ
mark = text "LGU" ++ (0 ∷ 1 ∷ [])

-- texts, sensor count and sensors; a fault where there are more than 32
unfoldable pub body_at : List ℕ → Taken Sheet
body_at s =
    and_then (text_at 32 s) (λ api r. and_then (text_at 32 r) (λ build q. and_then (byte_at q) (λ k p.
    cond (leb k 32) (and_then (many_at sensor_at k p) (λ ns o. taken (sheet_by api build ns) o)) broken)))

-- the whole layout
unfoldable pub sheet_at : List ℕ → Taken Sheet
sheet_at s = and_then (bytes_at 5 s) (λ m rest. cond (same m mark) (body_at rest) broken)

-- what a device is opened with: document 02, (m), "Opening takes a profile", and the bytes of a sheet
pub record Start : Type 0 where
  pub profile : ℕ
  pub bytes : List ℕ

-- by its parts
abbrev pub start_of : ℕ → List ℕ → Start
start_of profile bytes = record { profile = profile; bytes = bytes }

-- the sheet with a profile
abbrev pub with_profile : Sheet → ℕ → Sheet
with_profile sheet profile = record { api = sheet.api; api_len = sheet.api_len; build = sheet.build; build_len = sheet.build_len; count = sheet.count; profile = profile; sensors = sheet.sensors }

-- nothing is opened: a number, with the "blank halted state"
abbrev pub not_opened : ℕ → Opened
not_opened number = record { number = number; state = blank }

-- "Nothing follows", and the parts keep the section's rules; else "sheet breaks its layout", 4
abbrev pub accepted : ℕ → Taken Sheet → Opened
accepted profile broken = not_opened 4
accepted profile (taken sheet []) = cond (sheet_ok sheet) (record { number = 0; state = fresh (with_profile sheet profile) }) (not_opened 4)
accepted profile (taken sheet (b ∷ rest)) = not_opened 4

-- "Opening a sheet returns number and state"; document 02, (m): "31, with the blank state as at 4, when the profile is neither, before 4"
unfoldable pub opened : Start → Opened
opened start = cond (leb start.profile 1) (accepted start.profile (sheet_at start.bytes)) (not_opened 31)
