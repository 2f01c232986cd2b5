-- Tables of words: a table is one text, its words parted by bars. What the papers list stands so in the code.
use Rattle.std.specs.Prelude.{ℕ, suc, cond, List, [], ◌∷◌, eqb, ltb, length, get_or, Option, Some, None}
use Prim.Native.Char.{code}
use Rattle.output.specs.Text.{same}

-- a byte before the first of some words
abbrev pub start_with : ℕ → List (List ℕ) → List (List ℕ)
start_with b [] = (b ∷ []) ∷ []
start_with b (w ∷ ws) = (b ∷ w) ∷ ws

-- the words of a table
abbrev pub words_of : List ℕ → List (List ℕ)
words_of [] = [] ∷ []
words_of (b ∷ s) = cond (eqb b (code "|")) ([] ∷ words_of s) (start_with b (words_of s))

-- how many they are
abbrev pub word_count : List ℕ → ℕ
word_count table = length (words_of table)

-- words without the last
abbrev pub front : List (List ℕ) → List (List ℕ)
front [] = []
front (w ∷ []) = []
front (w ∷ (v ∷ ws)) = w ∷ front (v ∷ ws)

-- the last of words
abbrev pub final : List (List ℕ) → List ℕ
final [] = []
final (w ∷ []) = w
final (w ∷ (v ∷ ws)) = final (v ∷ ws)

-- the word at a place of a table, from 0; the last word from its place on
unfoldable pub word_of : List ℕ → ℕ → List ℕ
word_of table k = get_or (front (words_of table)) k (final (words_of table))

-- the place of a word among words, their number where it is none of them
abbrev pub place_in : List (List ℕ) → List ℕ → ℕ
place_in [] word = 0
place_in (w ∷ ws) word = cond (same w word) 0 (suc (place_in ws word))

-- the place of a word in a table
unfoldable pub place_of : List ℕ → List ℕ → ℕ
place_of table word = place_in (words_of table) word

-- a place among so many, where it is below their number
abbrev pub below : ℕ → ℕ → Option ℕ
below n k = cond (ltb k n) (Some k) None
