-- How the text of a number is made of that of its tenth, of its remainder, and of its distance from the bias.
use Prim.Native.Nat.{ℕ, zero, suc, ◌+◌, ◌-◌, ◌*◌, ◌/◌, ◌%◌, ◌^◌, ◌<◌, ◌≤◌}
use Prim.Native.Char.{code}
use native.Mathlib.Nat.{eq-zero-or-pos, zero-add, suc-add, lt_of_lt_of_le, pow-le-pow_right}
use native.Mathlib.Omega.{arith}
use mathlib.Core.Bool.{cond}
use mathlib.Core.Logic.{⊎_elim}
use mathlib.Core.Path.{◌≡◌, refl, ap, ◌∙◌}
use mathlib.Core.List.{List, [], ◌∷◌, ◌++◌}
use borrow.Author.Tests.{lt-ltb, le-ltb, eq-eqb, ne_eqb}
use lib.Dec.{ltb}
use Rattle.std.specs.Int.{abs_diff}
use Rattle.output.specs.Number.{digit, digits_in, decimal, fraction_in, signed}

-- a digit more is no digit more where the number is short
enough : (k n : ℕ) → n < 10 ^ suc k → digits_in (suc k) n ≡ digits_in k n
enough zero n h = rw (lt-ltb n 10 (omega arith))
enough (suc k) n h = rw (enough k (n / 10) (omega arith))

-- so is any number of them
within : (j k n : ℕ) → n < 10 ^ suc k → digits_in (j + k) n ≡ digits_in k n
within zero k n h = rw zero-add
within (suc j) k n h =
    rw suc-add (enough (j + k) n (lt_of_lt_of_le h (pow-le-pow_right {n = 10} (omega arith) (omega arith))) ∙ within j k n h)

pub decimal_within : (k n : ℕ) → k ≤ 19 → n < 10 ^ suc k → decimal n ≡ digits_in k n
unfolding decimal
decimal_within k n l h = let e : 19 ≡ 19 - k + k = omega arith in ap (λ (j : ℕ). digits_in j n) e ∙ within (19 - k) k n h

pub decimal_small : (n : ℕ) → n < 10 → decimal n ≡ digit n ∷ []
unfolding decimal
decimal_small n h = rw (lt-ltb n 10 h)

pub decimal_step : (n : ℕ) → 10 ≤ n → n < 2 ^ 64 → decimal n ≡ decimal (n / 10) ++ (digit n ∷ [])
unfolding decimal
decimal_step n h b = rw (le-ltb n 10 h, enough 18 (n / 10) (omega arith))

pub fraction_none : (base left f : ℕ) → left ≡ 0 → fraction_in base left f ≡ []
fraction_none base zero f h = refl
fraction_none base (suc k) f h = absurd (omega arith)

pub fraction_last : (base left f : ℕ) → (left ≡ 0 → ⊥) → f * 10 % base ≡ 0 → fraction_in base left f ≡ digit (f * 10 / base) ∷ []
fraction_last base zero f h e = absurd (h refl)
fraction_last base (suc k) f h e = rw (eq-eqb (f * 10 % base) 0 e)

pub fraction_more : (base left f : ℕ) → (left ≡ 0 → ⊥) → (f * 10 % base ≡ 0 → ⊥) → fraction_in base left f ≡ (digit (f * 10 / base) ∷ []) ++ fraction_in base (left - 1) (f * 10 % base)
fraction_more base zero f h e = absurd (h refl)
fraction_more base (suc k) f h e =
    let d : suc k - 1 ≡ k = omega arith in
    rw (ne_eqb (f * 10 % base) 0 e, d)

pub signed_lem : (bias : ℕ) (show : ℕ → List ℕ) (v : ℕ) → cond (ltb v bias) (code "-" ∷ []) [] ++ show (abs_diff v bias) ≡ signed bias show v
signed_lem bias show v =
    ⊎_elim
    (λ (z : bias - v ≡ 0). let e : abs_diff v bias ≡ v - bias = omega arith in rw (le-ltb v bias (omega arith), e))
    (λ (z : 0 < bias - v). let e : abs_diff v bias ≡ bias - v = omega arith in rw (lt-ltb v bias (omega arith), e))
    (eq-zero-or-pos (bias - v))
