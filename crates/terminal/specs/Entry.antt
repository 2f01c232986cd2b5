-- Document 01, "Edges and a session": "Input `@ n` ticks to n ms, `= s v` gives sensor s (from 0) integer v; other lines, ill-formed ones of
-- these two kinds included, go to the server as client 0's lines." n, s and v are decimals, without leading zeros, v with a minus or without.
use Rattle.std.specs.Prelude.{ℕ, ◌-◌, ◌^◌, Bool, false, not, cond, ◌&&◌, List, [], ◌∷◌, eqb, ltb, length, ℤ, Some, None, Option}
use Prim.Native.Char.{code}
use Rattle.output.specs.Text.{text, same}
use Rattle.output.specs.Read.{read_decimal, read_integer}
use Rattle.value.specs.declared.Reading.{Reading as Given}
use Rattle.value.specs.declared.Reading.TheVariants.{Integer, Boolean}
use Rattle.machine.specs.Declined.{Action}
use Rattle.machine.specs.Declined as calls
use Rattle.input.specs.Words.{word_at, has_words, is_natural, integer_of}
use Rattle.terminal.specs.declared.Entry.{Entry}
use Rattle.terminal.specs.declared.Entry.TheVariants.{Tick, Reading, Line}

-- a decimal; the largest number of 64 bits where it is larger: that is above the limit of a tick, and no sensor's place
unfoldable pub natural : List ℕ → Option ℕ → Option ℕ
natural t None = cond (is_natural t) (Some (2 ^ 64 - 1)) None
natural t (Some n) = Some n

-- an integer of any size: digits without leading zeros, behind a minus or not, and not `-0`
unfoldable pub is_whole : List ℕ → Bool
is_whole [] = false
is_whole (b ∷ s) = cond (eqb b (code "-")) (is_natural s && not (same s (text "0"))) (is_natural (b ∷ s))

-- the reading of an integer; one that 32 bits cannot hold is unfit for every sensor, as a boolean of 255 is
unfoldable pub fitting : Option ℤ → Given
fitting None = Boolean 255
fitting (Some x) = Integer x

-- `@ n`
abbrev pub ticking : Option ℕ → Entry
ticking None = Line
ticking (Some n) = Tick n

-- `= s v`
abbrev pub giving : Option ℕ → List ℕ → Entry
giving None v = Line
giving (Some s) v = cond (is_whole v) (Reading s (fitting (integer_of (read_integer v)))) Line

-- what an input line is; none of over 2,048 bytes is of the two kinds
unfoldable pub entry_of : List ℕ → Entry
entry_of line =
    cond (ltb 2048 (length line)) Line
    (cond (has_words (text "@") 1 line) (ticking (natural (word_at 1 line) (read_decimal (word_at 1 line))))
    (cond (has_words (text "=") 2 line) (giving (natural (word_at 1 line) (read_decimal (word_at 1 line))) (word_at 2 line))
    Line))

-- the call that it makes at a clock: document 02, (g), "the console gives the clock"
unfoldable pub action_by : ℕ → List ℕ → Entry → Action
action_by clock line (Tick n) = calls.Tick n
action_by clock line (Reading s r) = calls.Reading s (calls.arrival r clock)
action_by clock line Line = calls.Line 0 line

-- the call that an input line makes
abbrev pub action_of : ℕ → List ℕ → Action
action_of clock line = action_by clock line (entry_of line)
