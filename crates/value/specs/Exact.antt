-- What is claimed of the difference of a float: the number read is the exact decimal, and what was read before request (b) is read still.
use Rattle.std.specs.Prelude.{ℕ, ◌*◌, ◌^◌, ◌≤◌, ◌≡◌, true, List, Some}
use Rattle.output.specs.Read.{value_from}
use Rattle.scientific.specs.Decimal.{is_minus, digits, is_scientific, places_up, places_down}
use Rattle.value.specs.Parameter.{units, decimal_ok, float_difference_of}

-- n millionths are exactly the digits times the power of ten, said without a division: 10^places_down · n is 10^places_up · digits
pub record Exact (t : List ℕ) (n : ℕ) : Type 0 where
  pub form : is_scientific t ≡ true
  pub number : n * 10 ^ places_down t ≡ value_from 0 (digits t) * 10 ^ places_up t
  pub most : n ≤ 2097152000000
  pub sign : is_minus t ≡ true → n ≡ 0

pub record Reads : Type 0 where
  -- exactly these are read
  pub only : (t : List ℕ) (n : ℕ) → float_difference_of t ≡ Some n → Exact t n
  pub every : (t : List ℕ) (n : ℕ) → Exact t n → float_difference_of t ≡ Some n
  -- what document 01's plain decimals were read as, they are read as still
  pub still : (t : List ℕ) → decimal_ok 6 0 2097152000000 t ≡ true → float_difference_of t ≡ Some (units 6 t)
