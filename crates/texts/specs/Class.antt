-- Classes of bytes, and the byte that a text begins with.
use Rattle.std.specs.Prelude.{ℕ, Bool, false, not, ◌&&◌, ◌||◌, List, [], ◌∷◌, eqb, leb}
use Prim.Native.Char.{code}
use Rattle.output.specs.Text.{is_digit}
use Rattle.output.specs.Read.{other}
use Rattle.texts.specs.declared.Class.{Class}
use Rattle.texts.specs.declared.Class.TheVariants.{Blank, Word, Title, Digit, Other}

-- a space or a tab
unfoldable pub blank : ℕ → Bool
blank b = eqb b (code " ") || eqb b (code "\t")

-- a byte of a word
abbrev pub word_byte : ℕ → Bool
word_byte b = not (blank b)

-- a letter of ASCII
unfoldable pub letter : ℕ → Bool
letter b = (leb (code "A") b && leb b (code "Z")) || (leb (code "a") b && leb b (code "z"))

-- a byte of a message's name: "letters, digits, `-`"
unfoldable pub title_byte : ℕ → Bool
title_byte b = letter b || (is_digit b || eqb b (code "-"))

-- a name byte, of a sensor's name: "a-z A-Z 0-9 . - _"
unfoldable pub name_byte : ℕ → Bool
name_byte b = letter b || (is_digit b || (eqb b (code ".") || (eqb b (code "-") || eqb b (code "_"))))

-- whether a byte is of a class
abbrev pub in_class : Class → ℕ → Bool
in_class Blank = blank
in_class Word = word_byte
in_class Title = title_byte
in_class Digit = is_digit
in_class (Other x) = other x

-- whether a text begins with a byte
abbrev pub begins : ℕ → List ℕ → Bool
begins b [] = false
begins b (c ∷ s) = eqb c b
