-- The sensors that a request names, on a sheet of any count: a State holds the first 32. On a sheet in range these are all, and the places
-- are those of `place_of`, `listed` and `all_places`.
use Rattle.std.specs.Prelude.{ℕ, ◌-◌, ◌<◌, min, ◌≡◌, Bool, false, cond, List, [], ◌∷◌, ◌++◌, map, leb, length, take, replicate, Result, Ok, Err}
use Rattle.output.specs.Text.{same}
use Rattle.machine.specs.declared.Refusal.{Refusal}
use Rattle.machine.specs.declared.Refusal.TheVariants.{UnknownSensor, SensorTwice}
use Rattle.machine.specs.declared.Sheet.{Sheet}
use Rattle.machine.specs.Places.{any, first_below, has, twice, Each}
use Rattle.machine.specs.Sheet.{sensor_of, name_of}
use Rattle.machine.specs.Requests.{split}
use Rattle.names.specs.declared.Listed.{Listed}

-- how many sensors of a sheet a State holds
abbrev pub held : Sheet → ℕ
held sheet = min sheet.count 32

-- the place of the sensor with a name, or their count where none has it
unfoldable pub place_in : Sheet → List ℕ → ℕ
place_in sheet name = first_below (λ j. same (name_of (sensor_of sheet j)) name) (held sheet)

-- no sensor is at the place
abbrev pub is_past : Sheet → ℕ → Bool
is_past sheet j = leb (held sheet) j

-- places, the rest of the array zero
unfoldable pub listing : List ℕ → Listed
listing js = record { count = length js; places = js ++ replicate (32 - length js) 0 }

-- the places of a list
abbrev pub places_of : Listed → List ℕ
places_of list = take list.count list.places

-- a list of distinct places that a State has
pub record Places (list : Listed) : Type 0 where
  pub is : list ≡ listing (places_of list)
  pub held : Each (λ j. j < 32) (places_of list)
  pub once : twice (places_of list) ≡ false

-- "name twice", 21, declines them
unfoldable pub distinctly : List ℕ → Result Listed Refusal
distinctly js = cond (twice js) (Err SensorTwice) (Ok (listing js))

-- one place more
unfoldable pub with_place : Listed → ℕ → Result Listed Refusal
with_place list j = cond (has j (places_of list)) (Err SensorTwice) (Ok (listing (places_of list ++ (j ∷ []))))

-- the sensors of a comma list: "sensor name unknown", 16, before 21
unfoldable pub scanned : Sheet → List ℕ → Result Listed Refusal
scanned sheet js = cond (any (is_past sheet) js) (Err UnknownSensor) (distinctly js)

-- the places of its names
unfoldable pub places_named : Sheet → List ℕ → List ℕ
places_named sheet names = map (place_in sheet) (split names)
