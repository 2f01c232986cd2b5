-- The texts of numbers read back: each reader takes exactly the texts that its writer gives for the numbers in range.
use Rattle.std.specs.Prelude.{ℕ, ◌+◌, ◌-◌, ◌*◌, ◌/◌, ◌%◌, ◌^◌, ◌≡◌, Bool, true, not, cond, ◌&&◌, List, [], ◌∷◌, ◌++◌, eqb, leb, ltb, length, drop, Option, None, Some}
use Prim.Native.Char.{code}
use Rattle.output.specs.Text.{same, run, behind_run}
use Rattle.output.specs.declared.Notation.{Notation}
use Rattle.output.specs.declared.Notation.TheVariants.{Decimal, Time, Integer, Float, Difference, WholeDifference}
use Rattle.output.specs.Number.{decimal, time, integer, float, difference, whole_difference}

-- the number that digits make after a
abbrev pub value_from : ℕ → List ℕ → ℕ
value_from a [] = a
value_from a (b ∷ bs) = value_from (a * 10 + (b - code "0")) bs

-- a byte other than x
abbrev pub other : ℕ → ℕ → Bool
other x b = not (eqb b x)

-- the bytes before the first x
abbrev pub up_to : ℕ → List ℕ → List ℕ
up_to x t = run (other x) t

-- the bytes behind the first x
abbrev pub past : ℕ → List ℕ → List ℕ
past x t = drop 1 (behind_run (other x) t)

-- a text with a point, counted in parts of which base make one
abbrev pub parts : ℕ → List ℕ → ℕ
parts base t =
    value_from 0 (up_to (code ".") t ++ past (code ".") t) * base / 10 ^ length (past (code ".") t)

-- a text that may begin with a minus, counted from a bias
abbrev pub from_bias : ℕ → (List ℕ → ℕ) → List ℕ → ℕ
from_bias bias value [] = bias
from_bias bias value (b ∷ bs) = cond (eqb b (code "-")) (bias - value bs) (bias + value (b ∷ bs))

-- x, where it is in range and t is its text
abbrev pub accepted : (ℕ → List ℕ) → (ℕ → Bool) → List ℕ → ℕ → Option ℕ
accepted write in_range t x = cond (in_range x && same (write x) t) (Some x) None

-- 64 bits
abbrev pub in_decimal : ℕ → Bool
in_decimal n = ltb n (2 ^ 64)

-- "Boolean: 0, 1"
abbrev pub in_boolean : ℕ → Bool
in_boolean n = leb n 1

-- "0 to 9,999,999,999,999" milliseconds
abbrev pub in_time : ℕ → Bool
in_time ms = leb ms 9999999999999

-- "signed 32-bit"
abbrev pub in_integer : ℕ → Bool
in_integer v = ltb v (2 ^ 32)

-- "within ±1,048,576", in 1024ths
abbrev pub in_float : ℕ → Bool
in_float v = leb v (2 ^ 31)

-- "float to 2,097,152", in millionths
abbrev pub in_difference : ℕ → Bool
in_difference d = leb d 2097152000000

-- "integer .. to 4,294,967,295", in millionths
abbrev pub in_whole_difference : ℕ → Bool
in_whole_difference d = leb d 4294967295000000 && eqb (d % 1000000) 0

-- a decimal
unfoldable pub read_decimal : List ℕ → Option ℕ
read_decimal t = accepted decimal in_decimal t (value_from 0 t)

-- a boolean
unfoldable pub read_boolean : List ℕ → Option ℕ
read_boolean t = accepted decimal in_boolean t (value_from 0 t)

-- a time
unfoldable pub read_time : List ℕ → Option ℕ
read_time t = accepted time in_time t (parts 1000 t)

-- an integer
unfoldable pub read_integer : List ℕ → Option ℕ
read_integer t = accepted integer in_integer t (from_bias (2 ^ 31) (value_from 0) t)

-- a float
unfoldable pub read_float : List ℕ → Option ℕ
read_float t = accepted float in_float t (from_bias (2 ^ 30) (parts 1024) t)

-- a difference written like a float
unfoldable pub read_difference : List ℕ → Option ℕ
read_difference t = accepted difference in_difference t (parts 1000000 t)

-- a difference of integers
unfoldable pub read_whole_difference : List ℕ → Option ℕ
read_whole_difference t = accepted whole_difference in_whole_difference t (value_from 0 t * 1000000)

-- the numbers of a notation
abbrev pub in_number : Notation → ℕ → Bool
in_number Decimal n = in_decimal n
in_number Time n = in_time n
in_number Integer n = in_integer n
in_number Float n = in_float n
in_number Difference n = in_difference n
in_number WholeDifference n = in_whole_difference n

-- a number in its notation
abbrev pub read_number : Notation → List ℕ → Option ℕ
read_number Decimal t = read_decimal t
read_number Time t = read_time t
read_number Integer t = read_integer t
read_number Float t = read_float t
read_number Difference t = read_difference t
read_number WholeDifference t = read_whole_difference t

-- `read t` is x exactly where x is in range and t is the text of x
pub record Exactly (read : List ℕ → Option ℕ) (write : ℕ → List ℕ) (in_range : ℕ → Bool) : Type 0 where
  pub back : (x : ℕ) → in_range x ≡ true → read (write x) ≡ Some x
  pub only : (t : List ℕ) (x : ℕ) → read t ≡ Some x → (in_range x ≡ true) × (write x ≡ t)
