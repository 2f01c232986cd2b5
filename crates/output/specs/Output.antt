-- A lent output, and the place in it where the next byte goes. Writing never runs past the end: there it leaves the output as it is.
use Rattle.std.specs.Prelude.{◌≡◌, List, [], ◌∷◌, ◌++◌, ℕ, ◌+◌, min, length, drop, set}

-- the bytes of an output, and the place of the next byte
pub record Output : Type 0 where
  pub bytes : List ℕ
  pub at : ℕ

-- an output by its parts
abbrev pub output : List ℕ → ℕ → Output
output xs at = record { bytes = xs; at = at }

-- one byte: stored where there is room; the place goes on by one, and stops at the end
abbrev pub put : Output → ℕ → Output
put p b = output (set p.bytes p.at b) (min (p.at + 1) (length p.bytes))

-- a text, byte by byte
abbrev pub put_all : Output → List ℕ → Output
put_all p [] = p
put_all p (b ∷ bs) = put_all (put p b) bs

-- q is p with the text bs written on it. A record, so that a proof finds p, bs and q in its type
pub record Wrote (p : Output) (bs : List ℕ) (q : Output) : Type 0 where
  pub is : q ≡ put_all p bs

-- the bytes bs at the start of an output, and past them what was there
abbrev pub laid : List ℕ → List ℕ → List ℕ
laid bs xs = bs ++ drop (length bs) xs
