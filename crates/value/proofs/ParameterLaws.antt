-- A parameter that is written reads back as its number.
use Rattle.std.specs.Prelude.{Some}
use Prim.Native.Nat.{ℕ, zero, suc, ◌+◌, ◌-◌, ◌*◌, ◌/◌, ◌%◌, ◌^◌, ◌<◌, ◌≤◌}
use Prim.Native.Char.{code}
use native.Mathlib.Nat.{mod-lt, div-add-mod', mul_assoc, one-le-pow, eq_of_mul-eq-mul_right, eq-zero-or-pos, le_refl, lt_of_le_of_lt, div-le_self}
use native.Mathlib.Omega.{arith}
use mathlib.Core.Path.{◌≡◌, refl, ap, sym, ◌∙◌}
use mathlib.Core.Logic.{⊎_elim}
use mathlib.Core.Bool.{true}
use mathlib.Core.List.{List, [], ◌∷◌, ◌++◌, append_assoc, append-nil}
use lib.ListN.{length, drop}
use lib.Pow.{pow-add}
use borrow.Author.Tests.{le-leb, lt-ltb, le-ltb, ne_eqb}
use Rattle.output.specs.Number.{digit, digits_in, decimal, time, fraction_in, fixed, difference, whole_difference}
use Rattle.output.specs.Text.{is_digit, all}
use Rattle.output.specs.Read.{value_from}
use Rattle.output.proofs.TextLaws.{digit_is, Every, every_all, every_decimal, every_fraction}
use Rattle.output.proofs.RunLaws.{run-append, behind-append}
use Rattle.output.proofs.LengthLaws.{length-fraction}
use Rattle.output.proofs.ReadLaws.{value_decimal, fraction_exact}
use Rattle.value.specs.Parameter.{whole, behind_whole, whole_ok, fraction_ok, plain_decimal, units, decimal_ok, integer_difference_of, float_difference_of, period_of, shortest_of}
use Rattle.value.proofs.DecimalLaws.{answer, in_millionths}
use Rattle.value.proofs.ExactLaws.{plain_read}

-- ---- digits, and what stands behind them

abbrev Digit : ℕ → Type 0
Digit b = is_digit b ≡ true

-- ---- no leading zeros

lead_digit : (n : ℕ) (s : List ℕ) → 0 < n → n < 10 → whole_ok (digit n ∷ s) ≡ true
lead_digit n s p h = rw (ne_eqb (48 + n % 10) 48 (λ e. omega arith))

lead : (k n : ℕ) (s : List ℕ) → 0 < n → n < 10 ^ suc k → whole_ok (digits_in k n ++ s) ≡ true
lead zero n s p h = lead_digit n s p (omega arith)
lead (suc k) n s p h =
    ⊎_elim
    (λ (z : n - 9 ≡ 0). rw (lt-ltb n 10 (omega arith)) (lead_digit n s p (omega arith)))
    (λ (z : 0 < n - 9).
    rw (le-ltb n 10 (omega arith), append_assoc (digits_in k (n / 10)) (digit n ∷ []) s) (lead k (n / 10) (digit n ∷ s) (omega arith) (omega arith)))
    (eq-zero-or-pos (n - 9))

decimal_ok_lem : (n : ℕ) → n < 2 ^ 64 → whole_ok (decimal n) ≡ true
unfolding decimal
decimal_ok_lem n h =
    ⊎_elim
    (λ (z : n ≡ 0). rw z)
    (λ (p : 0 < n). rw (← append-nil (digits_in 19 n)) (lead 19 n [] p (omega arith)))
    (eq-zero-or-pos n)

-- ---- a decimal and what stands behind it: nothing, or a point and digits

-- what may stand behind the digits, and reads as no digit
record Behind (b : List ℕ) : Type 0 where
  none : whole b ≡ []
  rest : behind_whole b ≡ b
  ok : fraction_ok b ≡ true

behind_nothing : Behind []
behind_nothing = record { none = refl; rest = refl; ok = refl }

behind_digits : (d : ℕ) (s : List ℕ) → Every Digit (d ∷ s) → Behind (code "." ∷ d ∷ s)
unfolding is_digit
behind_digits d s h =
    let l : 1 ≤ length (d ∷ s) = omega arith in
    record { none = refl; rest = refl; ok = rw (le-leb 1 (length (d ∷ s)) l) (every_all is_digit (d ∷ s) h) }

module _ (w : ℕ) (b : List ℕ) (fits : w < 2 ^ 64) (behind : Behind b) where
  digits : all is_digit (decimal w) ≡ true
  digits = every_all is_digit (decimal w) (every_decimal Digit digit_is w)

  whole_is : whole (decimal w ++ b) ≡ decimal w
  whole_is = run-append is_digit (decimal w) b digits ∙ rw behind.none (append-nil (decimal w))

  behind_is : behind_whole (decimal w ++ b) ≡ b
  behind_is = behind-append is_digit (decimal w) b digits ∙ behind.rest

  plain_is : plain_decimal (decimal w ++ b) ≡ true
  plain_is = rw (whole_is, behind_is, decimal_ok_lem w fits, behind.ok)

  units_is : (k : ℕ) → units k (decimal w ++ b) ≡ w * 10 ^ k + value_from 0 (drop 1 b) * 10 ^ (k - length (drop 1 b))
  units_is k = rw (whole_is, behind_is, value_decimal w fits)

  -- it is read as n where n is its number, in range
  answer_is : (k least most n : ℕ) → length (drop 1 b) ≤ k → w * 10 ^ k + value_from 0 (drop 1 b) * 10 ^ (k - length (drop 1 b)) ≡ n
      → least ≤ n → n ≤ most → answer k least most (decimal w ++ b) ≡ Some n
  unfolding decimal_ok
  answer_is k least most n s e l m =
      let u = units_is k ∙ e in
      rw (plain_is, u, behind_is, le-leb (length (drop 1 b)) k s, le-leb least n l, le-leb n most m)

-- ---- the fraction's digits

-- v units of 10^-l are f units of 10^-k
units_exact : (k l v f : ℕ) → l ≤ k → v * 10 ^ k ≡ f * 10 ^ l → v * 10 ^ (k - l) ≡ f
units_exact k l v f h e =
    let s : k - l + l ≡ k = omega arith in
    eq_of_mul-eq-mul_right (10 ^ l) (one-le-pow l 10 (omega arith)) (v * 10 ^ (k - l)) f
    (mul_assoc v (10 ^ (k - l)) (10 ^ l) ∙ ap (λ (x : ℕ). v * x) (sym (pow-add 10 (k - l) l) ∙ ap (λ (x : ℕ). 10 ^ x) s) ∙ e)

-- a number m / base with the digits of its fraction
module _ (base k least most m : ℕ) (e : base ≡ 10 ^ k) (h : m < 2 ^ 64) (l : least ≤ m) (o : m ≤ most) where
  number_is : (v n : ℕ) → n ≤ k → v * base ≡ m % base * 10 ^ n → m / base * 10 ^ k + v * 10 ^ (k - n) ≡ m
  number_is v n s x =
      ap (λ (y : ℕ). m / base * 10 ^ k + y) (units_exact k n v (m % base) s (ap (λ (y : ℕ). v * y) (sym e) ∙ x))
      ∙ ap (λ (y : ℕ). m / base * y + m % base) (sym e)
      ∙ div-add-mod' m base

  written : (ds : List ℕ) → Behind (code "." ∷ ds) → length ds ≤ k → value_from 0 ds * base ≡ m % base * 10 ^ length ds → answer k least most (decimal (m / base) ++ (code "." ∷ ds)) ≡ Some m
  written ds b s x =
      answer_is (m / base) (code "." ∷ ds) (lt_of_le_of_lt (div-le_self m base) h) b k least most m s (number_is (value_from 0 ds) (length ds) s x) l o

fixed_answer : (base k least most m : ℕ) → base ≡ 10 ^ suc k → m < 2 ^ 64 → least ≤ m → m ≤ most → answer (suc k) least most (fixed base (suc k) m) ≡ Some m
unfolding fixed
fixed_answer base k least most m e h l o =
    let p : 0 < base = rw e (one-le-pow (suc k) 10 (omega arith)) in
    let x = fraction_exact base (suc k) (m % base) (m % base) (mod-lt m p) (ap (λ (y : ℕ). m % base * y) e) in
    written base (suc k) least most m e h l o (fraction_in base (suc k) (m % base))
    (behind_digits _ _ (every_fraction Digit digit_is base (suc k) (m % base)))
    (length-fraction base (suc k) (m % base))
    x

time_answer : (least most m : ℕ) → m < 2 ^ 64 → least ≤ m → m ≤ most → answer 3 least most (time m) ≡ Some m
unfolding time
time_answer least most m h l o =
    let a : 48 + m / 100 % 10 - 48 ≡ m / 100 % 10 = omega arith in
    let b : 48 + m / 10 % 10 - 48 ≡ m / 10 % 10 = omega arith in
    let c : 48 + m % 10 - 48 ≡ m % 10 = omega arith in
    written 1000 3 least most m refl h l o (digit (m / 100) ∷ digit (m / 10) ∷ digit m ∷ [])
    (behind_digits (digit (m / 100)) (digit (m / 10) ∷ digit m ∷ []) (digit_is (m / 100), (digit_is (m / 10), (digit_is m, tt))))
    (le_refl 3)
    (rw (a, b, c) (omega arith))

-- ---- each parameter

pub period_back : (p : ℕ) → 1 ≤ p → p ≤ 86400000 → period_of (time p) ≡ Some p
unfolding period_of
period_back p l h = time_answer 1 86400000 p (omega arith) l h

pub shortest_back : (p : ℕ) → p ≤ 86400000 → shortest_of (time p) ≡ Some p
unfolding shortest_of
shortest_back p h = time_answer 0 86400000 p (omega arith) (omega arith) h

pub float_difference_back : (d : ℕ) → d ≤ 2097152000000 → float_difference_of (difference d) ≡ Some d
unfolding difference
float_difference_back d h = plain_read (difference d) d (fixed_answer 1000000 5 0 2097152000000 d refl (omega arith) (omega arith) h)

decimal_answer : (most w : ℕ) → w < 2 ^ 64 → w ≤ most → answer 0 0 most (decimal w) ≡ Some w
decimal_answer most w h o =
    rw (← append-nil (decimal w)) (answer_is w [] h behind_nothing 0 0 most w (le_refl 0) (omega arith) (omega arith) o)

pub integer_difference_back : (d : ℕ) → d ≤ 4294967295000000 → d % 1000000 ≡ 0 → integer_difference_of (whole_difference d) ≡ Some d
unfolding whole_difference
integer_difference_back d h e =
    sym (in_millionths (Some (d / 1000000)) (decimal (d / 1000000)) (sym (decimal_answer 4294967295 (d / 1000000) (omega arith) (omega arith))))
    ∙ ap Some (omega arith)
