-- The parameters of a strategy, read from their text (document 01, "Requests").
use Rattle.std.specs.Prelude.{ℕ, ◌+◌, ◌-◌, ◌*◌, ◌^◌, Bool, true, false, not, cond, ◌&&◌, ◌||◌, List, [], ◌∷◌, eqb, leb, length, drop, Some, None, Option}
use Prim.Native.Char.{code}
use Rattle.output.specs.Text.{is_digit, all, run, behind_run}
use Rattle.output.specs.Read.{value_from}
use Rattle.scientific.specs.Decimal.{millionths, scientific_ok}

-- the digits that a text starts with
abbrev pub whole : List ℕ → List ℕ
whole t = run is_digit t

-- what stands behind those digits
abbrev pub behind_whole : List ℕ → List ℕ
behind_whole t = behind_run is_digit t

-- digits, "no .. leading zeros"
abbrev pub whole_ok : List ℕ → Bool
whole_ok [] = false
whole_ok (b ∷ s) = not (eqb b (code "0")) || eqb (length s) 0

-- "then optionally a point and one or more digits"
abbrev pub fraction_ok : List ℕ → Bool
fraction_ok [] = true
fraction_ok (b ∷ s) = eqb b (code ".") && (leb 1 (length s) && all is_digit s)

-- "Parameters are plain decimals: digits, then optionally a point and one or more digits; no sign, exponent or leading zeros"; of these "Integer
-- differences and periods are read as today" (document 02, (b))
abbrev pub plain_decimal : List ℕ → Bool
plain_decimal t = whole_ok (whole t) && fraction_ok (behind_whole t)

-- the fraction digits of a plain decimal: what stands behind the point
abbrev pub fraction : List ℕ → List ℕ
fraction t = drop 1 (behind_whole t)

-- the number in units of 10^-k, where it has at most k fraction digits
abbrev pub units : ℕ → List ℕ → ℕ
units k t = value_from 0 (whole t) * 10 ^ k + value_from 0 (fraction t) * 10 ^ (k - length (fraction t))

-- from `least` to `most` units of 10^-k, with at most k fraction digits
unfoldable pub decimal_ok : ℕ → ℕ → ℕ → List ℕ → Bool
decimal_ok k least most t =
    plain_decimal t && (leb (length (fraction t)) k && (leb least (units k t) && leb (units k t) most))

-- "Difference: integer (no point) to 4,294,967,295", in millionths
unfoldable pub integer_difference_of : List ℕ → Option ℕ
integer_difference_of t = cond (decimal_ok 0 0 4294967295 t) (Some (units 0 t * 1000000)) None

-- "float to 2,097,152", in millionths, and document 02, (b): "a float is read as C99 does, in decimal form. [...] The exact decimal must still be at
-- most 2,097,152 and a whole number of millionths. Minus is taken only for zero."
unfoldable pub float_difference_of : List ℕ → Option ℕ
float_difference_of t = cond (scientific_ok 2097152000000 t) (Some (millionths t)) None

-- "Periods: 0.001 to 86,400 seconds, at most 3 fraction digits", in milliseconds
unfoldable pub period_of : List ℕ → Option ℕ
period_of t = cond (decimal_ok 3 1 86400000 t) (Some (units 3 t)) None

-- "(shortest may be 0)"
unfoldable pub shortest_of : List ℕ → Option ℕ
shortest_of t = cond (decimal_ok 3 0 86400000 t) (Some (units 3 t)) None
