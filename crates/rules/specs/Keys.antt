-- Keys: numbers by which texts are told apart where the numbers differ. Nothing is asked of a key but that equal texts have equal keys.
use Rattle.std.specs.Prelude.{ℕ, zero, suc, ◌+◌, ◌*◌, ◌%◌, Bool, cond, List, ◌++◌, eqb, get_or, replicate}
use Rattle.machine.specs.declared.Choice.{Choice}
use Rattle.machine.specs.declared.Sheet.{Sheet}
use Rattle.machine.specs.Places.{all_below, tabulate}
use Rattle.machine.specs.Sheet.{no_choice, sensor_of}

-- four bytes as one number
unfoldable pub quarter_at : List ℕ → ℕ → ℕ
quarter_at t i = get_or t i 0 + 256 * (get_or t (i + 1) 0 + 256 * (get_or t (i + 2) 0 + 256 * get_or t (i + 3) 0))

-- the key of sixteen bytes
unfoldable pub half_key : List ℕ → ℕ → ℕ
half_key t i = quarter_at t i + 3 * quarter_at t (i + 4) + (5 * quarter_at t (i + 8) + 7 * quarter_at t (i + 12))

-- the key of an option
unfoldable pub choice_key : List ℕ → ℕ
choice_key t = half_key t 0 % 4294967296

-- the key of a name
unfoldable pub name_key : List ℕ → ℕ
name_key t = (half_key t 0 + 11 * half_key t 16) % 4294967296

-- the keys of the options, and zeros behind them
unfoldable pub choice_keys : List Choice → List ℕ
choice_keys os = tabulate (λ k. choice_key (get_or os k no_choice).text) 8 ++ replicate 24 0

-- the keys of the names at all places
unfoldable pub name_keys : Sheet → List ℕ
name_keys sheet = tabulate (λ j. name_key (sensor_of sheet j).name) 32

-- at how many places below n the test holds
unfoldable pub how_many : (ℕ → Bool) → ℕ → ℕ
how_many f zero = 0
how_many f (suc n) = cond (f n) (how_many f n + 1) (how_many f n)

-- each of the first `count` keys stands there once
unfoldable pub keys_apart : List ℕ → ℕ → Bool
keys_apart keys count = all_below (λ j. eqb (how_many (λ i. eqb (get_or keys i 0) (get_or keys j 0)) count) 1) count
