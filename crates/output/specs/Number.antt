-- The texts of numbers (document 01, "Values" and "Requests": how values, times and parameters are written).
use Rattle.std.specs.Prelude.{ℕ, zero, suc, ◌+◌, ◌-◌, ◌*◌, ◌/◌, ◌%◌, ◌^◌, cond, List, [], ◌∷◌, ◌++◌, ltb, eqb}
use Prim.Native.Char.{code}
use Rattle.output.specs.declared.Notation.{Notation}
use Rattle.output.specs.declared.Notation.TheVariants.{Decimal, Time, Integer, Float, Difference, WholeDifference}

-- the last decimal digit of n
abbrev pub digit : ℕ → ℕ
digit n = code "0" + n % 10

-- the digits of n, at most k more than the last
abbrev pub digits_in : ℕ → ℕ → List ℕ
digits_in zero n = digit n ∷ []
digits_in (suc k) n = cond (ltb n 10) [] (digits_in k (n / 10)) ++ (digit n ∷ [])

-- n without leading zeros; a number below 2^64 has 20 digits at most
unfoldable pub decimal : ℕ → List ℕ
decimal n = digits_in 19 n

-- "Times are whole milliseconds .. written as seconds, point, three digits"
unfoldable pub time : ℕ → List ℕ
time ms = decimal (ms / 1000) ++ (code "." ∷ digit (ms / 100) ∷ digit (ms / 10) ∷ digit ms ∷ [])

-- the digits of f / base after the point by long division, one at least and k at most, up to the last that is not 0
abbrev pub fraction_in : ℕ → ℕ → ℕ → List ℕ
fraction_in base zero f = []
fraction_in base (suc k) f = digit (f * 10 / base) ∷ cond (eqb (f * 10 % base) 0) [] (fraction_in base k (f * 10 % base))

-- m / base, with k digits after the point at most
unfoldable pub fixed : ℕ → ℕ → ℕ → List ℕ
fixed base k m = decimal (m / base) ++ (code "." ∷ fraction_in base k (m % base))

-- a number stored with a bias: `show` writes how far it is from the bias, after a minus where it is below
abbrev pub signed : ℕ → (ℕ → List ℕ) → ℕ → List ℕ
signed bias show v = cond (ltb v bias) (code "-" ∷ show (bias - v)) (show (v - bias))

-- "Integers are signed 32-bit": v counts from -2^31
unfoldable pub integer : ℕ → List ℕ
integer v = signed (2 ^ 31) decimal v

-- "It is written exactly: no trailing zeros, one fraction digit at least": v counts 1024ths from -2^30
unfoldable pub float : ℕ → List ℕ
float v = signed (2 ^ 30) (fixed 1024 10) v

-- a difference "written like a float": d counts millionths
unfoldable pub difference : ℕ → List ℕ
difference d = fixed 1000000 6 d

-- a difference of integers: d counts millionths, and its whole part is written
unfoldable pub whole_difference : ℕ → List ℕ
whole_difference d = decimal (d / 1000000)

-- the text of a stored number in its notation
abbrev pub number_text : Notation → ℕ → List ℕ
number_text Decimal n = decimal n
number_text Time n = time n
number_text Integer n = integer n
number_text Float n = float n
number_text Difference n = difference n
number_text WholeDifference n = whole_difference n
