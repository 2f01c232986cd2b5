-- "Integers are signed 32-bit": stored as 2^31 more than the number.
use Rattle.std.specs.Prelude.{ℕ, suc, ◌+◌, ◌-◌, ◌*◌, ◌^◌, Bool, cond, ltb, List, get_or, ℤ, pos, negsuc}

-- "Integers are signed 32-bit"
abbrev pub is_signed32 : ℤ → Bool
is_signed32 (pos n) = ltb n (2 ^ 31)
is_signed32 (negsuc n) = ltb n (2 ^ 31)

-- `negsuc n` is -(n + 1)
abbrev pub biased_integer : ℤ → ℕ
biased_integer (pos n) = 2 ^ 31 + n
biased_integer (negsuc n) = 2 ^ 31 - suc n

-- four bytes, the highest first
abbrev pub word : ℕ → ℕ → ℕ → ℕ → ℕ
word a b c d = a * 16777216 + b * 65536 + c * 256 + d

-- two's complement: the 32 bits w stand for w, or from 2^31 on for w - 2^32, which is -((2^32 - suc w) + 1)
abbrev pub signed32 : ℕ → ℤ
signed32 w = cond (ltb w (2 ^ 31)) (pos w) (negsuc (2 ^ 32 - suc w))

-- four bytes, big-endian, as a signed number
abbrev pub signed_in : List ℕ → ℤ
signed_in w = signed32 (word (get_or w 0 0) (get_or w 1 0) (get_or w 2 0) (get_or w 3 0))
