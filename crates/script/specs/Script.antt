-- What a line of a script asks: one call a line, words with one space between them, bytes in lower-case hex, numbers in decimal.
--   open SHEET [PROFILE]
--   connect LENT CLIENT ADDRESS
--   disconnect LENT CLIENT
--   tick LENT MS
--   reading LENT SENSOR KIND VALUE [TIME]
--   log LENT LEVEL LOGGER MESSAGE
--   line LENT CLIENT LINE
use Rattle.std.specs.Prelude.{ℕ, Bool, true, cond, ◌&&◌, ◌||◌, List, [], ◌∷◌, eqb, leb, ltb, length, ℤ, Some, None, Option}
use Prim.Native.Char.{code}
use Rattle.std.specs.Float.{binary64}
use Rattle.std.specs.Float.Ieee.{of_bits}
use Rattle.output.specs.Text.{text, same}
use Rattle.output.specs.Read.{read_decimal, read_integer}
use Rattle.value.specs.declared.Reading.{Reading}
use Rattle.value.specs.declared.Reading.TheVariants.{Integer, Float, Boolean, Option as Choice, Timestamp, Failure, Unreachable, Inactive}
use Rattle.input.specs.Words.{word_at, has_words, integer_of}
use Rattle.in_hex.specs.Hex.{is_bytes, bits_of}
use Rattle.script.specs.declared.Command.{Command}
use Rattle.script.specs.declared.Command.TheVariants as commands

-- Numbers.

-- a number that its argument's type can hold
abbrev pub at_most : ℕ → Option ℕ → Option ℕ
at_most most None = None
at_most most (Some n) = cond (leb n most) (Some n) None

-- the number of word k, of 64 bits
unfoldable pub number_at : ℕ → List ℕ → Option ℕ
number_at k line = read_decimal (word_at k line)

-- Readings.

-- a reading of a number
abbrev pub reading_of : (ℕ → Reading) → Option ℕ → Option Reading
reading_of f None = None
reading_of f (Some n) = Some (f n)

-- an integer
abbrev pub integer_given : Option ℤ → Option Reading
integer_given None = None
integer_given (Some x) = Some (Integer x)

-- "for float the 16 hex digits of the double's bits"
abbrev pub float_of : Option ℕ → Option Reading
float_of None = None
float_of (Some b) = Some (Float (of_bits binary64 b))

-- "`-` for the last three kinds"
abbrev pub without_value : Reading → List ℕ → Option Reading
without_value r t = cond (same t (text "-")) (Some r) None

-- a reading that is not valid
unfoldable pub without_number : List ℕ → List ℕ → Option Reading
without_number kind t =
    cond (same kind (text "failure")) (without_value Failure t)
    (cond (same kind (text "unreachable")) (without_value Unreachable t)
    (cond (same kind (text "inactive")) (without_value Inactive t)
    None))

-- a reading by its kind and its value
unfoldable pub given : List ℕ → List ℕ → Option Reading
given kind t =
    cond (same kind (text "integer")) (integer_given (integer_of (read_integer t)))
    (cond (same kind (text "float")) (float_of (bits_of t))
    (cond (same kind (text "boolean")) (reading_of Boolean (at_most 255 (read_decimal t)))
    (cond (same kind (text "option")) (reading_of Choice (at_most 255 (read_decimal t)))
    (cond (same kind (text "timestamp")) (reading_of Timestamp (read_decimal t))
    (without_number kind t)))))

-- Calls.

-- word k stands for bytes
abbrev pub has_bytes : ℕ → List ℕ → Bool
has_bytes k line = is_bytes (word_at k line)

-- a sheet, with a profile or without
unfoldable pub is_opening : List ℕ → Bool
is_opening line = has_words (text "open") 1 line || has_words (text "open") 2 line

-- "PROFILE from (m) on; none is 0", a byte
unfoldable pub profile_at : List ℕ → Option ℕ
profile_at line = cond (has_words (text "open") 1 line) (Some 0) (at_most 255 (number_at 2 line))

-- an opening under a profile that was read, or none
abbrev pub opening : Option ℕ → Option Command
opening None = None
opening (Some profile) = Some (commands.Open profile)

-- a reading with its value, and with its time or without
unfoldable pub is_reading : List ℕ → Bool
is_reading line = has_words (text "reading") 4 line || has_words (text "reading") 5 line

-- "TIME from (g) on; none is the clock of the state at hand"
unfoldable pub time_at : ℕ → List ℕ → Option ℕ
time_at clock line = cond (has_words (text "reading") 4 line) (Some clock) (number_at 5 line)

-- a reading that was given, with its time, or none
abbrev pub reading : ℕ → Option Reading → Option ℕ → Option Command
reading j None t = None
reading j (Some r) None = None
reading j (Some r) (Some t) = Some (commands.Reading j r t)

-- a line whose number behind LENT is n, at the clock of the state at hand
unfoldable pub called : ℕ → List ℕ → ℕ → Option Command
called clock line n =
    cond (has_words (text "connect") 3 line && has_bytes 3 line) (Some (commands.Connect n))
    (cond (has_words (text "disconnect") 2 line) (Some (commands.Disconnect n))
    (cond (has_words (text "tick") 2 line) (Some (commands.Tick n))
    (cond (is_reading line) (reading n (given (word_at 3 line) (word_at 4 line)) (time_at clock line))
    (cond (has_words (text "log") 4 line && (leb n 255 && (has_bytes 3 line && has_bytes 4 line))) (Some (commands.Log n))
    (cond (has_words (text "line") 3 line && has_bytes 3 line) (Some (commands.Line n))
    None)))))

-- by LENT and the number behind it
abbrev pub by_numbers : ℕ → List ℕ → Option ℕ → Option ℕ → Option Command
by_numbers clock line None m = None
by_numbers clock line (Some lent) None = None
by_numbers clock line (Some lent) (Some n) = called clock line n

-- "Empty lines and lines that begin with `;` are passed over"
abbrev pub passed : List ℕ → Bool
passed [] = true
passed (b ∷ s) = eqb b (code ";")

-- a line's command, at the clock of the state at hand; "a line over 65,536 bytes" is no call
unfoldable pub command_of : ℕ → List ℕ → Option Command
command_of clock line =
    cond (ltb 65536 (length line)) None
    (cond (passed line) (Some commands.Passed)
    (cond (is_opening line && has_bytes 1 line) (opening (profile_at line))
    (by_numbers clock line (number_at 1 line) (number_at 2 line))))

-- "LENT is the length of the lent output", of a call
abbrev pub or_none : Option ℕ → ℕ
or_none None = 0
or_none (Some n) = n

-- of a line
unfoldable pub lent_by : List ℕ → ℕ
lent_by line = or_none (number_at 1 line)
