-- What a reading becomes (document 01, "Values"): a sample, which is a kind (0 unknown, 1 valid, 2 failure, 3 unreachable, 4 inactive)
-- and a stored number, or unfit for the sensor's type (1 integer, 2 float, 3 boolean, 4 discrete, 5 timestamp).
use Rattle.std.specs.Prelude.{ℕ, ◌^◌, Bool, cond, ◌&&◌, ◌||◌, eqb, leb, ltb, ℤ, Some, None, Option}
use Rattle.value.specs.declared.Reading.{Reading}
use Rattle.value.specs.declared.Reading.TheVariants.{Integer, Float, Boolean, Option as Choice, Timestamp, Failure, Unreachable, Inactive}
use Rattle.value.specs.declared.Sample.{Sample}
use Rattle.value.specs.Double.{exact1024}
use Rattle.value.specs.Integer.{biased_integer, is_signed32}

-- a sample by its parts
abbrev pub sample : ℕ → ℕ → Sample
sample kind number = record { kind = kind; number = number }

-- a valid sample
abbrev pub valid : ℕ → Option Sample
valid n = Some (sample 1 n)

-- for a sensor of type t, a reading of type k
abbrev pub only_for : ℕ → ℕ → Option Sample → Option Sample
only_for t k a = cond (eqb t k) a None

-- a number that must be below a limit
abbrev pub below : ℕ → ℕ → Option Sample
below limit n = cond (ltb n limit) (valid n) None

-- an integer that is signed 32-bit
abbrev pub of_integer : ℤ → Option Sample
of_integer x = cond (is_signed32 x) (valid (biased_integer x)) None

-- a double that fits, or is unfit
abbrev pub of_fit : Option ℕ → Option Sample
of_fit (Some n) = valid n
of_fit None = None

-- types 1 and 2, which have limits and differences
unfoldable pub is_measured : ℕ → Bool
is_measured t = eqb t 1 || eqb t 2

-- the stored number of "the type's zero (first option for discrete)"
unfoldable pub zero_of : ℕ → ℕ
zero_of t = cond (eqb t 1) (2 ^ 31) (cond (eqb t 2) (2 ^ 30) 0)

-- "The others carry the type's zero": a sample of another kind than valid
abbrev pub invalid : ℕ → ℕ → Sample
invalid t kind = sample kind (zero_of t)

-- "A fresh sensor is unknown"
abbrev pub fresh : ℕ → Sample
fresh t = invalid t 0

-- "A reading is an integer, a float, a boolean, an option .. or a timestamp, or one of failure, unreachable, inactive": at a sensor of type t
-- with so many options
unfoldable pub sample_of : ℕ → ℕ → Reading → Option Sample
sample_of t options (Integer x) = only_for t 1 (of_integer x)
sample_of t options (Float x) = only_for t 2 (of_fit (exact1024 x))
sample_of t options (Boolean b) = only_for t 3 (below 2 b)
sample_of t options (Choice i) = only_for t 4 (below options i)
sample_of t options (Timestamp m) = only_for t 5 (below 10000000000000 m)
sample_of t options Failure = Some (invalid t 2)
sample_of t options Unreachable = Some (invalid t 3)
sample_of t options Inactive = Some (invalid t 4)

-- a stored number of a valid value of type t: "Integers are signed 32-bit", "within ±1,048,576", "Boolean: 0, 1", a place in the list of options, a time
unfoldable pub number_fits : ℕ → ℕ → ℕ → Bool
number_fits t options n =
    cond (eqb t 1) (ltb n (2 ^ 32))
    (cond (eqb t 2) (leb n (2 ^ 31))
    (cond (eqb t 3) (leb n 1)
    (cond (eqb t 4) (ltb n options)
    (leb n 9999999999999))))

-- a sample that a sensor of type t can have: valid with such a number, or of another kind with the type's zero
unfoldable pub sample_fits : ℕ → ℕ → Sample → Bool
sample_fits t options x =
    cond (eqb x.kind 1) (number_fits t options x.number) (leb x.kind 4 && eqb x.number (zero_of t))
