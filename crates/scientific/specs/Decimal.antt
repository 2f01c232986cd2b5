-- A decimal as C99 reads it (document 02, (b)): "a float is read as C99 does, in decimal form". A text is taken apart from its start: a sign if any,
-- digits, a point if any, digits, an exponent if any.
use Rattle.std.specs.Prelude.{ℕ, ◌+◌, ◌-◌, ◌*◌, ◌/◌, ◌%◌, ◌^◌, Bool, not, cond, ◌&&◌, ◌||◌, List, ◌++◌, eqb, leb, length, drop}
use Prim.Native.Char.{code}
use Rattle.output.specs.Text.{is_digit, all, run, behind_run}
use Rattle.output.specs.Read.{value_from}
use Rattle.texts.specs.Class.{begins}

-- "Minus is taken only for zero"
abbrev pub is_minus : List ℕ → Bool
is_minus t = begins (code "-") t

-- "a leading `+`", or a minus: what stands behind it
abbrev pub behind_sign : List ℕ → List ℕ
behind_sign t = cond (begins (code "+") t || is_minus t) (drop 1 t) t

-- what stands behind a point, if the text begins with one
abbrev pub behind_point : List ℕ → List ℕ
behind_point t = cond (begins (code ".") t) (drop 1 t) t

-- "an exponent (`e` or `E`, a sign if any, one to three digits)": its digits
abbrev pub exponent_digits : List ℕ → List ℕ
exponent_digits e = behind_sign (drop 1 e)

-- such an exponent, or nothing
unfoldable pub exponent_ok : List ℕ → Bool
exponent_ok e =
    eqb (length e) 0
    || ((begins (code "e") e || begins (code "E") e) && (leb 1 (length (exponent_digits e)) && (leb (length (exponent_digits e)) 3 && all is_digit (exponent_digits e))))

-- by how many places it moves the point to the right, and to the left
abbrev pub raised : List ℕ → ℕ
raised e = cond (is_minus (drop 1 e)) 0 (value_from 0 (exponent_digits e))

abbrev pub lowered : List ℕ → ℕ
lowered e = cond (is_minus (drop 1 e)) (value_from 0 (exponent_digits e)) 0

module _ (t : List ℕ) where
  -- the digits before the point, "leading zeros" too
  abbrev pub whole_digits : List ℕ
  whole_digits = run is_digit (behind_sign t)

  -- what stands behind them and behind a point
  abbrev pub after_point : List ℕ
  after_point = behind_point (behind_run is_digit (behind_sign t))

  -- the digits behind the point; none where there is no point
  abbrev pub fraction_digits : List ℕ
  fraction_digits = run is_digit after_point

  abbrev pub exponent : List ℕ
  exponent = behind_run is_digit after_point

  -- all digits before the exponent
  abbrev pub digits : List ℕ
  digits = whole_digits ++ fraction_digits

  -- "a missing whole or fraction part (`.5`, `5.`, never both)"
  unfoldable pub is_scientific : Bool
  is_scientific = leb 1 (length digits) && exponent_ok exponent

  -- the digits count millionths when the point is moved so many places to the right ..
  abbrev pub places_up : ℕ
  places_up = 6 + raised exponent

  -- .. and so many to the left
  abbrev pub places_down : ℕ
  places_down = length fraction_digits + lowered exponent

  -- "a whole number of millionths": the digits that are cut off make 0
  unfoldable pub is_whole : Bool
  is_whole = eqb (value_from 0 digits % 10 ^ (places_down - places_up)) 0

  -- how many they are
  unfoldable pub millionths : ℕ
  millionths = value_from 0 digits * 10 ^ (places_up - places_down) / 10 ^ (places_down - places_up)

-- "The exact decimal must still be at most 2,097,152 and a whole number of millionths. Minus is taken only for zero." Here the most is given, in
-- millionths.
unfoldable pub scientific_ok : ℕ → List ℕ → Bool
scientific_ok most t = is_scientific t && (is_whole t && (leb (millionths t) most && (not (is_minus t) || eqb (millionths t) 0)))
