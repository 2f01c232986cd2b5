-- The lines that the programs read: words with one space between them, and numbers among the words.
use Rattle.std.specs.Prelude.{ℕ, zero, suc, ◌-◌, ◌^◌, Bool, cond, ◌&&◌, List, [], ◌∷◌, eqb, ltb, ℤ, pos, negsuc, Some, None, Option}
use Prim.Native.Char.{code}
use Rattle.output.specs.Text.{is_digit, all, same}
use Rattle.output.specs.Read.{up_to, past}
use Rattle.value.specs.Parameter.{whole_ok}

-- what stands behind the first k spaces of a line
abbrev pub behind_spaces : ℕ → List ℕ → List ℕ
behind_spaces zero t = t
behind_spaces (suc k) t = behind_spaces k (past (code " ") t)

-- word k of a line, from 0; empty where there is none
unfoldable pub word_at : ℕ → List ℕ → List ℕ
word_at k t = up_to (code " ") (behind_spaces k t)

-- how many spaces a line has: one fewer than its words
abbrev pub spaces : List ℕ → ℕ
spaces [] = 0
spaces (b ∷ s) = cond (eqb b (code " ")) (suc (spaces s)) (spaces s)

-- a line whose first word is this, with so many more words
unfoldable pub has_words : List ℕ → ℕ → List ℕ → Bool
has_words word more t = same (word_at 0 t) word && eqb (spaces t) more

-- a decimal of any size: digits without leading zeros
unfoldable pub is_natural : List ℕ → Bool
is_natural t = whole_ok t && all is_digit t

-- a signed number that is counted from -2^31; `negsuc n` is -(n + 1)
abbrev pub signed_of : ℕ → ℤ
signed_of v = cond (ltb v (2 ^ 31)) (negsuc (2 ^ 31 - suc v)) (pos (v - 2 ^ 31))

-- a signed number that was read, or none
abbrev pub integer_of : Option ℕ → Option ℤ
integer_of None = None
integer_of (Some v) = Some (signed_of v)
