-- A double's bit pattern and its size in 1024ths: what `of_double g` is of the pattern's fields, for any rule `g` that is `Same` and `Big`.
use Rattle.std.specs.Prelude.{None, Option}
use mathlib.Core.Path.{◌≡◌, refl, sym, ap, ◌∙◌}
use mathlib.Core.Bool.{Bool, true, false, cond}
use Prim.Native.Nat.{ℕ, zero, suc, ◌+◌, ◌-◌, ◌*◌, ◌/◌, ◌%◌, ◌^◌, ◌≤◌, ◌<◌}
use native.Mathlib.Nat.{mul_assoc, mul_right_comm, mod-eq_of_lt, zero-mod, zero-div, one-mul, le-div_iff_mul-le, eq_of_mul-eq-mul_right, mul-mod_left, div-add-mod', lt_of_lt_of_le, le_trans, le_of_eq, mul-le-mul_right, le-add_right}
use native.Mathlib.Omega.{arith}
use lib.Dec.{leb, eqb, lit≤, lit<}
use lib.Pow.{pow-add, pow_pos, pow_mono, shl_exact}
use borrow.Author.Tests.{lt-leb, eq-eqb, ne_eqb, eqb-true, eqb-false}
use lib.Ieee.{Float, nan, inf, fin, binary64, up, down, odd, is_nan, of_fields, of_bits}
use lib.Ieee.Fits.{down_pos}
use lib.Ieee.Exact.{HasValue, odd_sign}
use lib.Ieee.Nearest.{div_same}
use Rattle.value.specs.Double.{within, whole_of, of_double, exact1024}

-- a rule that goes by the fraction's value alone
abbrev pub Same : (Bool → ℕ → ℕ → Option ℕ) → Type 0
Same g = (s : Bool) (a b c d : ℕ) → 0 < b → 0 < d → a * d ≡ c * b → g s a b ≡ g s c d

-- a rule that refuses what is above 2^30
abbrev pub Big : (Bool → ℕ → ℕ → Option ℕ) → Type 0
Big g = (s : Bool) (a b : ℕ) → 2 ^ 30 < a / b → g s a b ≡ None

-- ---- `whole_of` is such a rule

-- where b divides a, d divides c
whole_too : (a b c d : ℕ) → 0 < b → a * d ≡ c * b → a % b ≡ 0 → c % d ≡ 0
whole_too a b c d B e z =
    let q = a / b in
    let x : q * b ≡ a = let y = div-add-mod' a b in omega arith in
    let y : c * b ≡ q * d * b = sym e ∙ ap (λ (k : ℕ). k * d) (sym x) ∙ mul_right_comm q b d in
    ap (λ (k : ℕ). k % d) (eq_of_mul-eq-mul_right b B c (q * d) y) ∙ mul-mod_left q d

pub whole_same : Same whole_of
whole_same s a b c d B D e = go (eqb (a % b) 0) refl
  where
    go : (t : Bool) → eqb (a % b) 0 ≡ t → whole_of s a b ≡ whole_of s c d
    go true h =
        rw (h, eq-eqb (c % d) 0 (whole_too a b c d B e (eqb-true _ _ h)), div_same a b c d B D e)
    go false h =
        rw (h, ne_eqb (c % d) 0 (λ z. eqb-false _ _ h (whole_too c d a b D (sym e) z)))

pub whole_big : Big whole_of
whole_big s a b h = go (eqb (a % b) 0) refl
  where
    go : (t : Bool) → eqb (a % b) 0 ≡ t → whole_of s a b ≡ None
    go true e = rw (e, lt-leb (a / b) (2 ^ 30) h)
    go false e = rw e

-- ---- the pattern's fields

of_bits_is : (b : ℕ) → of_bits binary64 b ≡ of_fields binary64 (leb (2 ^ 63) b) (b % 2 ^ 63 / 2 ^ 52) (b % 2 ^ 52)
unfolding of_bits
of_bits_is b = refl

-- 2^j · 1024 · 2^(1064 - j) is 2^1074
powers : (j : ℕ) → j ≤ 1064 → 2 ^ j * 1024 * 2 ^ (1064 - j) ≡ 2 ^ 1074
powers j h =
    let e : j + 10 + (1064 - j) ≡ 1074 = omega arith in
    ap (λ (k : ℕ). k * 2 ^ (1064 - j)) (sym (pow-add 2 j 10))
    ∙ sym (pow-add 2 (j + 10) (1064 - j))
    ∙ ap (λ (k : ℕ). 2 ^ k) e

cross : (q j : ℕ) → j ≤ 1064 → q * 2 ^ j * 1024 * 2 ^ (1064 - j) ≡ q * 2 ^ 1074
cross q j h =
    ap (λ (k : ℕ). k * 2 ^ (1064 - j)) (mul_assoc q (2 ^ j) 1024)
    ∙ mul_assoc q (2 ^ j * 1024) (2 ^ (1064 - j))
    ∙ ap (λ (k : ℕ). q * k) (powers j h)

-- from 2^52 · 2^1043 units on, the size is above 2^30
large : (q j : ℕ) → 2 ^ 52 ≤ q → 1043 ≤ j → 2 ^ 30 < q * 2 ^ j * 1024 / 2 ^ 1074
large q j Q l =
    let i : 1095 ≤ 52 + j = omega arith in
    let a : 2 ^ 1095 ≤ 2 ^ (52 + j) = pow_mono i in
    let b : 2 ^ (52 + j) ≤ q * 2 ^ j = le_trans (le_of_eq (pow-add 2 52 j)) (mul-le-mul_right (2 ^ j) Q) in
    let c : 2 ^ 1095 * 1024 ≤ q * 2 ^ j * 1024 = mul-le-mul_right 1024 (le_trans a b) in
    let d : 2 ^ 31 * 2 ^ 1074 ≤ 2 ^ 1095 * 1024 = lit≤ tt in
    let f : 2 ^ 31 ≤ q * 2 ^ j * 1024 / 2 ^ 1074 = (le-div_iff_mul-le (pow_pos 1074)).1 (le_trans d c) in
    lt_of_lt_of_le (lit< {m = 2 ^ 30} {n = 2 ^ 31} tt) f

module _ (g : Bool → ℕ → ℕ → Option ℕ) (same : Same g) (big : Big g) where
  -- by the value alone
  valued : (x : Float) (s : Bool) (a c : ℕ) → 0 < c → HasValue x s a c → of_double g x ≡ g s (a * 1024) c
  unfolding of_double
  valued nan s a c C v = absurd v
  valued (inf t) s a c C v = absurd v
  valued (fin t m e) s a c C v =
      same t (m * up e * 1024) (down e) (a * 1024) c (down_pos e) C
      (mul_right_comm (m * up e) 1024 c ∙ ap (λ (k : ℕ). k * 1024) v.1 ∙ mul_right_comm a (down e) 1024)
      ∙ ap (λ (k : Bool). g k (a * 1024) c) v.0

  -- q · 2^j units of 2^-1074
  read : (s : Bool) (q j : ℕ) → j ≤ 1064 → of_double g (odd 53 s q j 1074) ≡ g s q (2 ^ (1064 - j))
  read s q j h =
      valued (odd 53 s q j 1074) s (q * 2 ^ j) (2 ^ 1074) (pow_pos 1074) (odd_sign 53 s q j 1074)
      ∙ same s (q * 2 ^ j * 1024) (2 ^ 1074) q (2 ^ (1064 - j)) (pow_pos 1074) (pow_pos (1064 - j)) (cross q j h)

  read_large : (s : Bool) (q j : ℕ) → 2 ^ 52 ≤ q → 1043 ≤ j → of_double g (odd 53 s q j 1074) ≡ None
  read_large s q j Q l =
      valued (odd 53 s q j 1074) s (q * 2 ^ j) (2 ^ 1074) (pow_pos 1074) (odd_sign 53 s q j 1074)
      ∙ big s (q * 2 ^ j * 1024) (2 ^ 1074) (large q j Q l)

  fields_low : (s : Bool) (x t : ℕ) → x ≡ 0 → of_double g (of_fields binary64 s x t) ≡ g s t (2 ^ 1064)
  unfolding of_fields
  fields_low s zero t h = read s t 0 (lit≤ tt)
  fields_low s (suc j) t h = absurd (omega arith)

  fields_mid : (s : Bool) (x t : ℕ) → (x ≡ 0 → ⊥) → x ≤ 1043 → of_double g (of_fields binary64 s x t) ≡ g s (2 ^ 52 + t) (2 ^ (1065 - x))
  unfolding of_fields
  fields_mid s zero t n h = absurd (n refl)
  fields_mid s (suc j) t n h =
      let e : 1064 - j ≡ 1065 - suc j = omega arith in
      ap (λ (k : Bool). of_double g (cond k (cond (eqb t 0) (inf s) nan) (odd 53 s (2 ^ 52 + t) j 1074))) (ne_eqb (suc j) 2047 (λ e. omega arith))
      ∙ read s (2 ^ 52 + t) j (omega arith)
      ∙ ap (λ (k : ℕ). g s (2 ^ 52 + t) (2 ^ k)) e

  fields_high : (s : Bool) (x t : ℕ) → 1043 < x → of_double g (of_fields binary64 s x t) ≡ None
  unfolding of_fields of_double
  fields_high s zero t h = absurd (omega arith)
  fields_high s (suc j) t h = go (eqb (suc j) 2047) (eqb t 0)
    where
      go : (k l : Bool) → of_double g (cond k (cond l (inf s) nan) (odd 53 s (2 ^ 52 + t) j 1074)) ≡ None
      go true true = refl
      go true false = refl
      go false l = read_large s (2 ^ 52 + t) j (le-add_right (2 ^ 52) t) (omega arith)

  -- ---- a pattern b: subnormal or zero; of a size that may fit; above
  pub bits_low : (b : ℕ) → b % 2 ^ 63 / 2 ^ 52 ≡ 0 → of_double g (of_bits binary64 b) ≡ g (leb (2 ^ 63) b) (b % 2 ^ 52) (2 ^ 1064)
  bits_low b h = ap (of_double g) (of_bits_is b) ∙ fields_low (leb (2 ^ 63) b) (b % 2 ^ 63 / 2 ^ 52) (b % 2 ^ 52) h

  pub bits_mid : (b : ℕ) → (b % 2 ^ 63 / 2 ^ 52 ≡ 0 → ⊥) → b % 2 ^ 63 / 2 ^ 52 ≤ 1043 → of_double g (of_bits binary64 b) ≡ g (leb (2 ^ 63) b) (2 ^ 52 + b % 2 ^ 52) (2 ^ (1065 - b % 2 ^ 63 / 2 ^ 52))
  bits_mid b n h = ap (of_double g) (of_bits_is b) ∙ fields_mid (leb (2 ^ 63) b) (b % 2 ^ 63 / 2 ^ 52) (b % 2 ^ 52) n h

  pub bits_high : (b : ℕ) → 1043 < b % 2 ^ 63 / 2 ^ 52 → of_double g (of_bits binary64 b) ≡ None
  bits_high b h = ap (of_double g) (of_bits_is b) ∙ fields_high (leb (2 ^ 63) b) (b % 2 ^ 63 / 2 ^ 52) (b % 2 ^ 52) h

-- ---- a NaN has no count

pub nan_unread : (x : Float) → is_nan x ≡ true → None ≡ exact1024 x
unfolding is_nan of_double
nan_unread nan h = refl
nan_unread (inf s) h = let z : ◌≡◌ {A = ℕ} 0 1 = cc in absurd (omega arith)
nan_unread (fin s m e) h = let z : ◌≡◌ {A = ℕ} 0 1 = cc in absurd (omega arith)

-- ---- what `fit_whole` cites: digits over 2^k

pub unit_is : (k : ℕ) → k ≤ 63 → 1 * 2 ^ k % 2 ^ 64 ≡ 2 ^ k
unit_is k h = let l : 1 + k ≤ 64 = omega arith in shl_exact 1 k 64 (lit< tt) l ∙ one-mul (2 ^ k)

pub unit_pos : (k : ℕ) → k ≤ 63 → 0 < 1 * 2 ^ k % 2 ^ 64
unit_pos k h = rw (unit_is k h) (pow_pos k)

pub of_zero : (s : Bool) (b : ℕ) → whole_of s 0 b ≡ within s 0
of_zero s b = rw (zero-mod b, zero-div b)

pub of_part : (s : Bool) (a b : ℕ) → (a ≡ 0 → ⊥) → a < b → whole_of s a b ≡ None
of_part s a b n h = rw (mod-eq_of_lt h, ne_eqb a 0 n)

pub far : (a k : ℕ) → a < 2 ^ 64 → 63 < k → a < 2 ^ k
far a k h l = lt_of_lt_of_le h (pow_mono l)

pub of_whole : (s : Bool) (a b u : ℕ) → u ≡ b → a % u ≡ 0 → within s (a / u) ≡ whole_of s a b
of_whole s a b u e h = rw (← e, eq-eqb (a % u) 0 h)

pub of_rest : (s : Bool) (a b u : ℕ) → u ≡ b → (a % u ≡ 0 → ⊥) → None ≡ whole_of s a b
of_rest s a b u e h = rw (← e, ne_eqb (a % u) 0 h)
