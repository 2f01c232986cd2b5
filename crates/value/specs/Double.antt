-- What a double stands for, in 1024ths (document 01, "Values"). `lib.Ieee` writes a finite double as `fin s m e`: the number m · 2^e,
-- negative where s is true (zero: m = 0), and 2^e as the fraction up e / down e. So its size in 1024ths is m · up e · 1024 / down e.
use Rattle.std.specs.Prelude.{ℕ, suc, ◌+◌, ◌-◌, ◌*◌, ◌/◌, ◌%◌, ◌^◌, ◌≡◌, Bool, true, false, cond, eqb, leb, ℤ, pos, negsuc, Float, Some, None, Option}
use Rattle.std.specs.Float.{nan, inf, fin}
use Rattle.std.specs.Float.Ieee.{up, down}

-- n 1024ths, negative where s is true, are stored as 2^30 more than the number
abbrev pub biased : Bool → ℕ → ℕ
biased false n = 2 ^ 30 + n
biased true n = 2 ^ 30 - n

-- "within ±1,048,576", which is 2^30 1024ths
abbrev pub within : Bool → ℕ → Option ℕ
within s n = cond (leb n (2 ^ 30)) (Some (biased s n)) None

-- so many 1024ths, signed
abbrev pub within_signed : ℤ → Option ℕ
within_signed (pos n) = within false n
within_signed (negsuc n) = within true (suc n)

-- "an exact multiple of 1/1024": a / b 1024ths, which must be a whole number of them
abbrev pub whole_of : Bool → ℕ → ℕ → Option ℕ
whole_of s a b = cond (eqb (a % b) 0) (within s (a / b)) None

-- the rule `take` of a finite double's sign and its size in 1024ths, a fraction; a NaN and the infinities do not fit
unfoldable pub of_double : (Bool → ℕ → ℕ → Option ℕ) → Float → Option ℕ
of_double take nan = None
of_double take (inf s) = None
of_double take (fin s m e) = take s (m * up e * 1024) (down e)

-- the reading of a double
abbrev pub exact1024 : Float → Option ℕ
exact1024 x = of_double whole_of x

-- what that means: `exact1024 (fin s m e)` is `At n` exactly where n ≤ 2^31 and, for the fraction a / b of m · up e · 1024 and down e,
-- n = 2^30 ± a / b, which is said without a division
abbrev pub Stands : Bool → ℕ → ℕ → ℕ → Type 0
Stands false a b n = n * b ≡ 2 ^ 30 * b + a
Stands true a b n = n * b + a ≡ 2 ^ 30 * b
