-- Bytes in lower-case hex: two digits a byte, `-` for no bytes.
use Rattle.std.specs.Prelude.{ℕ, ◌+◌, ◌-◌, ◌*◌, ◌/◌, ◌%◌, Bool, cond, ◌&&◌, ◌||◌, List, [], ◌∷◌, eqb, leb, ltb, length, Some, None, Option}
use Prim.Native.Char.{code}
use Rattle.output.specs.Text.{text, same, is_digit, all}

-- a letter of lower-case hex
abbrev pub is_hex_letter : ℕ → Bool
is_hex_letter b = leb (code "a") b && leb b (code "f")

-- a digit of lower-case hex
unfoldable pub is_hex : ℕ → Bool
is_hex b = is_digit b || is_hex_letter b

-- its number; 0 for every other byte
unfoldable pub hex_value : ℕ → ℕ
hex_value b = cond (is_digit b) (b - code "0") (cond (is_hex_letter b) (b - code "a" + 10) 0)

-- the bytes of a text, two digits each; `-` has none
abbrev pub bytes_of : List ℕ → List ℕ
bytes_of [] = []
bytes_of (a ∷ []) = []
bytes_of (a ∷ b ∷ s) = (hex_value a * 16 + hex_value b) ∷ bytes_of s

-- a text that stands for bytes: `-`, or hex digits, an even number of them and two at least
unfoldable pub is_bytes : List ℕ → Bool
is_bytes t = same t (text "-") || (leb 2 (length t) && (eqb (length t % 2) 0 && all is_hex t))

-- the number that hex digits make after a
abbrev pub hex_from : ℕ → List ℕ → ℕ
hex_from a [] = a
hex_from a (b ∷ s) = hex_from (a * 16 + hex_value b) s

-- 64 bits: 16 digits
unfoldable pub bits_of : List ℕ → Option ℕ
bits_of t = cond (eqb (length t) 16 && all is_hex t) (Some (hex_from 0 t)) None

-- the digit of a number below 16
unfoldable pub hex_digit : ℕ → ℕ
hex_digit n = cond (ltb n 10) (code "0" + n) (code "a" + (n - 10))

-- bytes in hex
abbrev pub hexed : List ℕ → List ℕ
hexed [] = []
hexed (b ∷ bs) = hex_digit (b / 16) ∷ hex_digit (b % 16) ∷ hexed bs

-- bytes as a text, `-` for none
unfoldable pub hex_text : List ℕ → List ℕ
hex_text bs = cond (eqb (length bs) 0) (text "-") (hexed bs)
