-- "all distinct" as one pass over the pairs of places, by whole arrays. Where each text keeps its rules this says what `distinct` says.
use Rattle.std.specs.Prelude.{ℕ, ◌/◌, ◌%◌, Bool, not, ◌&&◌, ◌||◌, List, eqb, leb, get_or}
use Rattle.output.specs.Text.{same}
use Rattle.machine.specs.declared.Choice.{Choice}
use Rattle.machine.specs.declared.Sheet.{Sheet}
use Rattle.machine.specs.Places.{all_below}
use Rattle.machine.specs.Sheet.{no_choice, sensor_of}

-- two texts have the same length, and their arrays the same bytes
abbrev pub alike : ℕ → List ℕ → ℕ → List ℕ → Bool
alike n a m b = eqb n m && same a b

-- for the pair q of places i = q % width and j = q / width: unless i < j < count, nothing; else they are not alike
unfoldable pub apart_at : ℕ → ℕ → (ℕ → ℕ → Bool) → ℕ → Bool
apart_at width count like q = leb count (q / width) || (leb (q / width) (q % width) || not (like (q % width) (q / width)))

-- options i and j
abbrev pub choices_alike : List Choice → ℕ → ℕ → Bool
choices_alike os i j = alike (get_or os i no_choice).len (get_or os i no_choice).text (get_or os j no_choice).len (get_or os j no_choice).text

-- names of sensors i and j
abbrev pub names_alike : Sheet → ℕ → ℕ → Bool
names_alike sheet i j = alike (sensor_of sheet i).name_len (sensor_of sheet i).name (sensor_of sheet j).name_len (sensor_of sheet j).name

-- no two of the first `count` options are alike
unfoldable pub choices_apart : ℕ → List Choice → Bool
choices_apart count os = all_below (apart_at 8 count (choices_alike os)) 64

-- no two sensors have names alike
unfoldable pub names_apart : Sheet → Bool
names_apart sheet = all_below (apart_at 32 sheet.count (names_alike sheet)) 1024
