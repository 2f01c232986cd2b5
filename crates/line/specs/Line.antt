-- How a line is read (document 01, "Message lines"). A line is the list of its bytes, without its end.
use Rattle.std.specs.Prelude.{ℕ, ◌+◌, ◌-◌, ◌*◌, ◌≤◌, ◌≡◌, List, [], ◌∷◌, ◌++◌, map, Bool, true, false, not, cond, ◌&&◌, ◌||◌, length, eqb, leb, None, Some, Option}
use Prim.Native.Char.{code}
use Rattle.output.specs.Text.{is_digit, all, run, behind_run}
unfoldable pub use Rattle.texts.specs.Class.{blank, letter, title_byte}
pub use Rattle.texts.specs.Class.{word_byte}
use Rattle.message.specs.Message.{Message, Escape, escapes, write}
use Rattle.line.specs.declared.Meaning.{Meaning}
use Rattle.line.specs.declared.Meaning.TheVariants.{Byte, Nothing, Unknown}

-- a line is a message, or it is no message
pub data Parse : Type 0 where
  malformed : Parse
  message : Message → Parse

-- Bytes.

-- "`?` (request), `!` (reply) or `#` (inform)"
unfoldable pub kind_byte : ℕ → Bool
kind_byte b = eqb b (code "?") || (eqb b (code "!") || eqb b (code "#"))

-- the byte that a letter stands for after a backslash: in the table, or behind it `@` for nothing
abbrev pub by_letter : List Escape → ℕ → Meaning
by_letter (e ∷ es) c = cond (eqb c e.letter) (Byte e.byte) (by_letter es c)
by_letter [] c = cond (eqb c (code "@")) Nothing Unknown

-- what a backslash and c stand for
unfoldable pub escape_of : ℕ → Meaning
escape_of c = by_letter escapes c

-- a byte that the table does not have
abbrev pub none_of : List Escape → ℕ → Bool
none_of [] b = true
none_of (e ∷ es) b = not (eqb b e.byte) && none_of es b

-- "Those seven bytes never stand raw": a byte that does
unfoldable pub plain : ℕ → Bool
plain b = none_of escapes b

-- Words: "arguments, each after one or more spaces or tabs. Trailing spaces and tabs are allowed." A line is cut at its spaces and tabs.

-- the bytes up to the first space or tab
abbrev pub word : List ℕ → List ℕ
word s = run word_byte s

abbrev mutual
  -- the words of a list, each one byte or more
  pub words : List ℕ → List (List ℕ)
  words [] = []
  words (b ∷ s) = cond (blank b) (words s) ((b ∷ word s) ∷ behind s)

  -- the words behind the first space or tab
  pub behind : List ℕ → List (List ℕ)
  behind [] = []
  behind (b ∷ s) = cond (blank b) (words s) (behind s)

-- Arguments: "one or more plain bytes or escapes".

-- an escape that document 01 has
abbrev pub known : Meaning → Bool
known (Byte b) = true
known Nothing = true
known Unknown = false

-- the bytes that an escape stands for
abbrev pub meant : Meaning → List ℕ
meant (Byte b) = b ∷ []
meant Nothing = []
meant Unknown = []

abbrev mutual
  -- a word is plain bytes and escapes
  pub valid : List ℕ → Bool
  valid [] = true
  valid (b ∷ s) = cond (eqb b (code "\\")) (valid_escape s) (plain b && valid s)

  -- a word behind a backslash
  pub valid_escape : List ℕ → Bool
  valid_escape [] = false
  valid_escape (c ∷ s) = known (escape_of c) && valid s

abbrev mutual
  -- the text that a valid word stands for
  pub unescape : List ℕ → List ℕ
  unescape [] = []
  unescape (b ∷ s) = cond (eqb b (code "\\")) (unescape_next s) (b ∷ unescape s)

  -- the text of a word behind a backslash
  pub unescape_next : List ℕ → List ℕ
  unescape_next [] = []
  unescape_next (c ∷ s) = meant (escape_of c) ++ unescape s

-- each word is plain bytes and escapes
abbrev pub all_valid : List (List ℕ) → Bool
all_valid [] = true
all_valid (w ∷ ws) = valid w && all_valid ws

-- The head: kind, name and id.

-- the name that a list starts with
abbrev pub name_of : List ℕ → List ℕ
name_of t = run title_byte t

-- what is behind that name
abbrev pub after_name : List ℕ → List ℕ
after_name t = behind_run title_byte t

-- "a letter, then .."
abbrev pub starts_with_letter : List ℕ → Bool
starts_with_letter [] = false
starts_with_letter (b ∷ s) = letter b

-- "a letter, then letters, digits, `-`; 64 bytes at most"
abbrev pub name_ok : List ℕ → Bool
name_ok n = leb (length n) 64 && starts_with_letter n

-- the digits up to the `]` that ends the list, with n read so far: "id 1 to 2,147,483,647 without leading zero"
abbrev pub id_from : ℕ → List ℕ → Option ℕ
id_from n [] = None
id_from n (b ∷ s) =
    cond (is_digit b)
    (cond (leb 1 (n * 10 + (b - code "0")) && leb (n * 10 + (b - code "0")) 2147483647) (id_from (n * 10 + (b - code "0")) s) None)
    (cond (eqb b (code "]") && (leb 1 n && eqb (length s) 0)) (Some n) None)

-- "optionally `[id]`": nothing is id 0
abbrev pub id_of : List ℕ → Option ℕ
id_of [] = Some 0
id_of (b ∷ s) = cond (eqb b (code "[")) (id_from 0 s) None

-- A line.

-- a message where the identifier is one
abbrev pub with_id : ℕ → List ℕ → Option ℕ → List (List ℕ) → Parse
with_id k n None ws = malformed
with_id k n (Some i) ws = message (record { kind = k; name = n; id = i; args = map unescape ws })

-- t is what follows the kind byte k in the first word, and ws are the other words
abbrev pub read_named : ℕ → List ℕ → List (List ℕ) → Parse
read_named k t ws = cond (name_ok (name_of t)) (with_id k (name_of t) (id_of (after_name t)) ws) malformed

-- the first word is a kind byte, a name and perhaps an identifier
abbrev pub read_head : List ℕ → List (List ℕ) → Parse
read_head [] ws = malformed
read_head (k ∷ t) ws = cond (kind_byte k) (read_named k t ws) malformed

-- "A line has 0 to 2,048 bytes, without its end"
abbrev pub line_size : List ℕ → Bool
line_size s = leb (length s) 2048

-- the message that a line is
unfoldable pub parse : List ℕ → Parse
parse s = cond (line_size s && all_valid (behind s)) (read_head (word s) (behind s)) malformed

-- "A line of only spaces and tabs, or empty"
unfoldable pub blank_line : List ℕ → Bool
blank_line s = line_size s && all blank s

-- what a message keeps to, so that its line is a line
pub record WellFormed (m : Message) : Type 0 where
  pub kind : kind_byte m.kind ≡ true
  pub letters : all title_byte m.name ≡ true
  pub name : name_ok m.name ≡ true
  pub id : m.id ≤ 2147483647
  pub fits : length (write m) ≤ 2048
