-- What the code computes of a decimal: digits with the point moved, where they make a whole number that is not above the most.
use Rattle.std.specs.Prelude.{ℕ, ◌-◌, ◌*◌, ◌/◌, ◌%◌, ◌^◌, min, cond, eqb}

-- one more than the most
abbrev pub above : ℕ
above = 2097152000001

-- v with the point moved to the right and to the left; `above` where that is more, or is not whole
unfoldable pub shifted : ℕ → ℕ → ℕ → ℕ
shifted v up down = cond (eqb (v % 10 ^ (down - up)) 0) (min (v * 10 ^ (up - down) / 10 ^ (down - up)) above) above
