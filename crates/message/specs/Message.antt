-- A message and the line that it is written as (document 01, "Message lines").
use Rattle.std.specs.Prelude.{ℕ, cond, List, [], ◌∷◌, ◌++◌, eqb}
use Prim.Native.Char.{code}
use Rattle.output.specs.Text.{text}
use Rattle.output.specs.Number.{decimal}

-- "A message is `?` (request), `!` (reply) or `#` (inform); a name ..; optionally `[id]` ..; then arguments", these before escaping; id 0: none
pub record Message : Type 0 where
  pub kind : ℕ
  pub name : List ℕ
  pub id : ℕ
  pub args : List (List ℕ)

-- a message by its parts
abbrev pub message : ℕ → List ℕ → ℕ → List (List ℕ) → Message
message kind name id args = record { kind = kind; name = name; id = id; args = args }

-- a byte that never stands raw, and the letter that stands for it after a backslash
pub record Escape : Type 0 where
  pub letter : ℕ
  pub byte : ℕ

-- a row of the table
abbrev pub for : ℕ → ℕ → Escape
for letter byte = record { letter = letter; byte = byte }

-- "`\\` backslash, `\_` space, `\0` byte 0, `\n` 10, `\r` 13, `\e` 27, `\t` 9"; the sequence and the words are those of document 02, (c)
abbrev pub escapes : List Escape
escapes =
    for (code "\\") (code "\\")  -- backslash
    ∷ for (code "_") (code " ")  -- space
    ∷ for (code "0") 0  -- null
    ∷ for (code "n") 10  -- newline
    ∷ for (code "r") 13  -- return
    ∷ for (code "e") 27  -- escape
    ∷ for (code "t") 9  -- tab
    ∷ []

-- "`\@` nothing": the last of that sequence, empty
abbrev pub nothing : List ℕ
nothing = text "\\@"

-- the text that stands for a byte: the byte itself if the table does not have it
abbrev pub escape_in : List Escape → ℕ → List ℕ
escape_in [] b = b ∷ []
escape_in (e ∷ es) b = cond (eqb b e.byte) (code "\\" ∷ e.letter ∷ []) (escape_in es b)

-- the text that stands for a byte of an argument
unfoldable pub escape_byte : ℕ → List ℕ
escape_byte b = escape_in escapes b

-- and for each byte of a text
abbrev pub escape_all : List ℕ → List ℕ
escape_all [] = []
escape_all (b ∷ bs) = escape_byte b ++ escape_all bs

-- an argument as it is written: "`\@` only for an empty argument"
unfoldable pub escape : List ℕ → List ℕ
escape (b ∷ bs) = escape_all (b ∷ bs)
escape [] = nothing

-- "Written lines use one space": an argument with the space before it
unfoldable pub arg : List ℕ → List ℕ
arg a = code " " ∷ escape a

-- arguments one after another, and then `end`
abbrev pub args_text : List (List ℕ) → List ℕ → List ℕ
args_text [] end = end
args_text (a ∷ more) end = arg a ++ args_text more end

-- `[id]`, or nothing for 0
unfoldable pub id_text : ℕ → List ℕ
id_text n = cond (eqb n 0) [] (code "[" ∷ (decimal n ++ text "]"))

-- a message as it is written, and then `end`
unfoldable pub write_to : List ℕ → Message → List ℕ
write_to end m = (m.kind ∷ m.name) ++ (id_text m.id ++ args_text m.args end)

-- the line of a message, without its end
abbrev pub write : Message → List ℕ
write m = write_to [] m

-- the line with its end: written lines "end in byte 10"
abbrev pub line : Message → List ℕ
line m = write_to (10 ∷ []) m
