-- The number that a text is tried as.
use Rattle.std.specs.Prelude.{ℕ, ◌-◌, ◌*◌, ◌/◌, ◌^◌, min, List, ◌++◌, length}
use Prim.Native.Char.{code}
use Rattle.output.specs.declared.Notation.{Notation}
use Rattle.output.specs.declared.Notation.TheVariants.{Decimal, Time, Integer, Float, Difference, WholeDifference}
use Rattle.output.specs.Read.{value_from, up_to, past, from_bias}

-- what `parts` counts, with the digits up to what 64 bits hold of it
unfoldable pub held_parts : ℕ → List ℕ → ℕ
held_parts base t =
    min (value_from 0 (up_to (code ".") t ++ past (code ".") t)) ((2 ^ 64 - 1) / base) * base / 10 ^ length (past (code ".") t)

-- the same behind a minus or without one, up to the bias on either side
unfoldable pub held_signed : ℕ → ℕ → List ℕ → ℕ
held_signed bias base t = from_bias bias (λ s. min (held_parts base s) bias) t

-- the number that a text is tried as in a notation
abbrev pub held_number : Notation → List ℕ → ℕ
held_number Decimal t = min (value_from 0 t) (2 ^ 64 - 1)
held_number Time t = held_parts 1000 t
held_number Integer t = held_signed (2 ^ 31) 1 t
held_number Float t = held_signed (2 ^ 30) 1024 t
held_number Difference t = held_parts 1000000 t
held_number WholeDifference t = min (value_from 0 t) (2 ^ 32) * 1000000
