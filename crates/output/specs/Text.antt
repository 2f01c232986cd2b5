-- Texts: lists of bytes.
use Rattle.std.specs.Prelude.{ℕ, Bool, true, false, cond, ◌&&◌, List, [] as none, ◌∷◌ as ◌then◌, eqb, leb}
use Prim.Native.Char.{code}
use Prim.Native.String.{String, [], ◌∷◌}

-- the bytes of a quoted text
abbrev pub text : String → List ℕ
text [] = none
text (c ∷ s) = code c then text s

-- two texts are the same, byte by byte
abbrev pub same : List ℕ → List ℕ → Bool
same none none = true
same none (y then ys) = false
same (x then xs) none = false
same (x then xs) (y then ys) = eqb x y && same xs ys

-- a decimal digit
unfoldable pub is_digit : ℕ → Bool
is_digit b = leb (code "0") b && leb b (code "9")

-- each byte of a text is one of those that `is` names
abbrev pub all : (ℕ → Bool) → List ℕ → Bool
all is none = true
all is (b then s) = is b && all is s

-- such bytes at the start of a text, up to the first other one
abbrev pub run : (ℕ → Bool) → List ℕ → List ℕ
run is none = none
run is (b then s) = cond (is b) (b then run is s) none

-- and what stands behind them
abbrev pub behind_run : (ℕ → Bool) → List ℕ → List ℕ
behind_run is none = none
behind_run is (b then s) = cond (is b) (behind_run is s) (b then s)
