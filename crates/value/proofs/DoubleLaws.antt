-- That `exact1024` answers n exactly where `Stands` says so, and worked examples.
use Rattle.std.specs.Prelude.{Some, None}
use mathlib.Core.Path.{◌≡◌, refl, sym, ap, ◌∙◌}
use mathlib.Core.Bool.{Bool, true, false, cond}
use Prim.Native.Nat.{ℕ, ◌+◌, ◌-◌, ◌*◌, ◌/◌, ◌%◌, ◌^◌, ◌≤◌, ◌<◌}
use native.Mathlib.Nat.{add-mul, div-add-mod', mul-mod_left, mul-div_cancel, le_of_mul-le-mul_right}
use native.Mathlib.Omega.{arith}
use lib.Dec.{leb, eqb}
use lib.IntN.{ℤ}
use lib.Ieee.{fin, up, down}
use lib.Ieee.Fits.{down_pos}
use borrow.Author.Tests.{leb-true, eqb-true, le-leb}
use Rattle.value.specs.Double.{biased, within, whole_of, of_double, exact1024, Stands}

-- what `within` answers
within_at : (s : Bool) (q n : ℕ) → within s q ≡ Some n → (q ≤ 2 ^ 30) × (biased s q ≡ n)
within_at s q n h = go (leb q (2 ^ 30)) refl h
  where
    go : (t : Bool) → leb q (2 ^ 30) ≡ t → cond t (Some (biased s q)) None ≡ Some n → (q ≤ 2 ^ 30) × (biased s q ≡ n)
    go true e k = (leb-true _ _ e, cc)
    go false e k = let z : ◌≡◌ {A = ℕ} 0 1 = cc in absurd (omega arith)

whole_at : (s : Bool) (a b n : ℕ) → whole_of s a b ≡ Some n → (a % b ≡ 0) × (within s (a / b) ≡ Some n)
whole_at s a b n h = go (eqb (a % b) 0) refl h
  where
    go : (t : Bool) → eqb (a % b) 0 ≡ t → cond t (within s (a / b)) None ≡ Some n → (a % b ≡ 0) × (within s (a / b) ≡ Some n)
    go true e k = (eqb-true _ _ e, k)
    go false e k = let z : ◌≡◌ {A = ℕ} 0 1 = cc in absurd (omega arith)

stands : (s : Bool) (q b n : ℕ) → q ≤ 2 ^ 30 → biased s q ≡ n → Stands s (q * b) b n × (n ≤ 2 ^ 31)
stands false q b n h e = (ap (λ (k : ℕ). k * b) (sym e) ∙ add-mul (2 ^ 30) q b, omega arith)
stands true q b n h e =
    let f : n + q ≡ 2 ^ 30 = omega arith in
    (sym (add-mul n q b) ∙ ap (λ (k : ℕ). k * b) f, omega arith)

fraction_stands : (s : Bool) (a b n : ℕ) → whole_of s a b ≡ Some n → Stands s a b n × (n ≤ 2 ^ 31)
fraction_stands s a b n h =
    let w = whole_at s a b n h in
    let v = within_at s (a / b) n w.1 in
    let d = div-add-mod' a b in
    let e : a / b * b ≡ a = omega arith in
    rw e at (stands s (a / b) b n v.0 v.1)

pub exact_stands : (s : Bool) (m : ℕ) (e : ℤ) (n : ℕ) → exact1024 (fin s m e) ≡ Some n → Stands s (m * up e * 1024) (down e) n × (n ≤ 2 ^ 31)
unfolding of_double
exact_stands s m e n h = fraction_stands s (m * up e * 1024) (down e) n h

of_multiple : (s : Bool) (q b n : ℕ) → 0 < b → q ≤ 2 ^ 30 → biased s q ≡ n → whole_of s (q * b) b ≡ Some n
of_multiple s q b n B h e =
    rw (mul-mod_left q b, mul-div_cancel q B, le-leb q (2 ^ 30) h) (ap Some e)

stands_whole : (s : Bool) (a b n : ℕ) → 0 < b → Stands s a b n → n ≤ 2 ^ 31 → whole_of s a b ≡ Some n
stands_whole false a b n B h l =
    let k : 2 ^ 30 * b ≤ n * b = omega arith in
    let g : 2 ^ 30 ≤ n = le_of_mul-le-mul_right k B in
    let q = n - 2 ^ 30 in
    let r : n ≡ 2 ^ 30 + q = omega arith in
    let x : n * b ≡ 2 ^ 30 * b + q * b = ap (λ (k : ℕ). k * b) r ∙ add-mul (2 ^ 30) q b in
    let y : q * b ≡ a = omega arith in
    rw (← y) (of_multiple false q b n B (omega arith) (sym r))
stands_whole true a b n B h l =
    let k : n * b ≤ 2 ^ 30 * b = omega arith in
    let g : n ≤ 2 ^ 30 = le_of_mul-le-mul_right k B in
    let q = 2 ^ 30 - n in
    let r : n + q ≡ 2 ^ 30 = omega arith in
    let x : n * b + q * b ≡ 2 ^ 30 * b = sym (add-mul n q b) ∙ ap (λ (k : ℕ). k * b) r in
    let y : q * b ≡ a = omega arith in
    rw (← y) (of_multiple true q b n B (omega arith) (omega arith))

pub stands_exact : (s : Bool) (m : ℕ) (e : ℤ) (n : ℕ) → Stands s (m * up e * 1024) (down e) n → n ≤ 2 ^ 31 → exact1024 (fin s m e) ≡ Some n
unfolding of_double
stands_exact s m e n h l = stands_whole s (m * up e * 1024) (down e) n (down_pos e) h l
