-- Reading back: the number that a text of digits makes, with a point and with a minus.
use Prim.Native.Nat.{ℕ, zero, suc, ◌+◌, ◌-◌, ◌*◌, ◌/◌, ◌%◌, ◌^◌, ◌<◌, ◌≤◌}
use Prim.Native.Char.{code}
use native.Mathlib.Nat.{mod-lt, div-add-mod', mul-div_cancel, le_of_mul-le-mul_right, lt_of_le_of_lt, div-le_self, lt_of_mul-lt-mul_right, one-le-pow, pow-suc, eq-zero-or-pos}
use native.Mathlib.Omega.{arith}
use mathlib.Core.Path.{◌≡◌, refl, ap, ◌∙◌}
use mathlib.Core.Logic.{⊎_elim}
use mathlib.Core.Bool.{Bool, true, false, cond, ◌&&◌}
use Rattle.std.specs.Prelude.{None, Some}
use mathlib.Core.List.{List, [], ◌∷◌, ◌++◌, append-nil}
use lib.Dec.{ltb, eqb}
use lib.ListN.{length, drop}
use borrow.Author.Tests.{lt-ltb, le-ltb, ltb-true, ltb-false, eq-eqb, ne_eqb, eqb-true}
use Rattle.output.specs.Text.{same, all}
use Rattle.output.proofs.TextLaws.{same_refl, same_true, every_all, every_decimal, first}
use Rattle.output.proofs.RunLaws.{run-append, behind-append}
use Rattle.output.specs.Number.{digit, digits_in, decimal, time, fraction_in, fixed, signed}
use Rattle.output.specs.Read.{value_from, other, up_to, past, parts, from_bias, accepted, Exactly}

-- the digits of two texts, one after the other
pub value-append : (a : ℕ) (xs ys : List ℕ) → value_from a (xs ++ ys) ≡ value_from (value_from a xs) ys
value-append a [] ys = refl
value-append a (x ∷ xs) ys = value-append (a * 10 + (x - code "0")) xs ys

-- what stands in front counts ten times as much for each digit
pub value_from_lem : (a : ℕ) (ds : List ℕ) → value_from a ds ≡ a * 10 ^ length ds + value_from 0 ds
value_from_lem a [] = omega arith
value_from_lem a (d ∷ ds) =
    rw (value_from_lem (a * 10 + (d - 48)) ds, value_from_lem (0 * 10 + (d - 48)) ds, pow-suc 10 (length ds)) (shifted (d - 48) (10 ^ length ds) (value_from 0 ds))
  where
    shifted : (x p v : ℕ) → (a * 10 + x) * p + v ≡ a * (p * 10) + ((0 * 10 + x) * p + v)
    shifted x p v = omega arith

value_digits : (k n : ℕ) → n < 10 ^ suc k → value_from 0 (digits_in k n) ≡ n
value_digits zero n h = omega arith
value_digits (suc k) n h =
    let m : n / 10 < 10 ^ suc k = omega arith in
    value-append 0 (cond (ltb n 10) [] (digits_in k (n / 10))) (digit n ∷ [])
    ∙ ⊎_elim
    (λ z. rw (lt-ltb n 10 (omega arith)) (omega arith))
    (λ z. rw (le-ltb n 10 (omega arith), value_digits k (n / 10) m) (omega arith))
    (eq-zero-or-pos (n - 9))

pub value_decimal : (n : ℕ) → n < 2 ^ 64 → value_from 0 (decimal n) ≡ n
unfolding decimal
value_decimal n h = value_digits 19 n (omega arith)

-- One step of long division: q and r are what f · 10 / base leaves.
module _ (base f q r : ℕ) (below : f < base) (split : q * base + r ≡ f * 10) where
  one_digit : q < 10
  one_digit = lt_of_mul-lt-mul_right base (omega arith)

  -- what is left is divided as well
  divides : (k m : ℕ) → 0 < base → m * base ≡ f * 10 ^ suc k → (m - q * 10 ^ k) * base ≡ r * 10 ^ k
  divides k m b e =
      let p : m * base ≡ (q * base + r) * 10 ^ k = e ∙ rw (split, pow-suc 10 k) (omega arith) in
      let l : q * 10 ^ k * base ≤ m * base = omega arith in
      let n : q * 10 ^ k ≤ m = le_of_mul-le-mul_right l b in
      let d : m ≡ m - q * 10 ^ k + q * 10 ^ k = omega arith in
      let x : m * base ≡ (m - q * 10 ^ k + q * 10 ^ k) * base = ap (λ (y : ℕ). y * base) d in
      omega arith

  last_digit : r ≡ 0 → value_from 0 (digit q ∷ []) * base ≡ f * 10
  last_digit z = let d = one_digit in let e : 0 * 10 + (48 + q % 10 - 48) ≡ q = omega arith in rw e (omega arith)

  next_digit : (ds : List ℕ) → value_from 0 ds * base ≡ r * 10 ^ length ds → value_from 0 (digit q ∷ ds) * base ≡ f * 10 ^ suc (length ds)
  next_digit ds h =
      let d = one_digit in
      let e : 0 * 10 + (48 + q % 10 - 48) ≡ q = omega arith in
      let v = value_from_lem q ds in
      let w : (q * base + r) * 10 ^ length ds ≡ f * 10 * 10 ^ length ds = ap (λ (y : ℕ). y * 10 ^ length ds) split in
      rw (e, v, pow-suc 10 (length ds)) (omega arith)

-- the digits of f / base by long division are exact where base divides f · 10^k
pub fraction_exact : (base k f m : ℕ) → f < base → m * base ≡ f * 10 ^ k → value_from 0 (fraction_in base k f) * base ≡ f * 10 ^ length (fraction_in base k f)
fraction_exact base zero f zero h e = omega arith
fraction_exact base zero f (suc m) h e = absurd (omega arith)
fraction_exact base (suc k) f m h e = go (eqb (f * 10 % base) 0) refl (fraction_exact base k (f * 10 % base) (m - f * 10 / base * 10 ^ k) (mod-lt (f * 10) (omega arith)) (divides base f (f * 10 / base) (f * 10 % base) h split k m (omega arith) e))
  where
    split : f * 10 / base * base + f * 10 % base ≡ f * 10
    split = div-add-mod' (f * 10) base

    go : (b : Bool) → eqb (f * 10 % base) 0 ≡ b → value_from 0 (fraction_in base k (f * 10 % base)) * base ≡ f * 10 % base * 10 ^ length (fraction_in base k (f * 10 % base))
        → value_from 0 (digit (f * 10 / base) ∷ cond b [] (fraction_in base k (f * 10 % base))) * base ≡ f * 10 ^ length (digit (f * 10 / base) ∷ cond b [] (fraction_in base k (f * 10 % base)))
    go true z i = last_digit base f (f * 10 / base) (f * 10 % base) h split (eqb-true _ _ z)
    go false z i = next_digit base f (f * 10 / base) (f * 10 % base) h split (fraction_in base k (f * 10 % base)) i

-- The bytes before and behind the first x.
other_self : (x : ℕ) → other x x ≡ false
other_self x = rw (eq-eqb x x refl)

pub up_to_at : (x : ℕ) (a b : List ℕ) → all (other x) a ≡ true → up_to x (a ++ (x ∷ b)) ≡ a
up_to_at x a b p = run-append (other x) a (x ∷ b) p ∙ rw (other_self x) (append-nil a)

pub past_at : (x : ℕ) (a b : List ℕ) → all (other x) a ≡ true → past x (a ++ (x ∷ b)) ≡ b
past_at x a b p = ap (drop 1) (behind-append (other x) a (x ∷ b) p) ∙ rw (other_self x)

-- a decimal has no point
pub no_point : (w : ℕ) → all (other (code ".")) (decimal w) ≡ true
no_point w = every_all (other 46) (decimal w) (every_decimal (λ b. other 46 b ≡ true) (λ n. rw (ne_eqb (48 + n % 10) 46 (λ z. omega arith))) w)

-- a whole part and the digits of f / base
parts_of_lem : (base w f : ℕ) (ds : List ℕ) → w < 2 ^ 64 → value_from 0 ds * base ≡ f * 10 ^ length ds → parts base (decimal w ++ (code "." ∷ ds)) ≡ w * base + f
parts_of_lem base w f ds h e =
    let n = no_point w in
    let v : value_from 0 (decimal w ++ ds) ≡ w * 10 ^ length ds + value_from 0 ds =
    value-append 0 (decimal w) ds ∙ ap (λ (a : ℕ). value_from a ds) (value_decimal w h) ∙ value_from_lem w ds in
    let m : value_from 0 (decimal w ++ ds) * base ≡ (w * base + f) * 10 ^ length ds = rw v (omega arith) in
    rw (up_to_at 46 (decimal w) ds n, past_at 46 (decimal w) ds n, m) (mul-div_cancel (w * base + f) (one-le-pow (length ds) 10 (omega arith)))

pub parts_fixed : (base k q m : ℕ) → 0 < base → q * base ≡ 10 ^ k → m < 2 ^ 64 → parts base (fixed base k m) ≡ m
unfolding fixed
parts_fixed base k q m b e h =
    let s = div-add-mod' m base in
    let d : (m % base * q) * base ≡ m % base * 10 ^ k = rw (← e) (omega arith) in
    parts_of_lem base (m / base) (m % base) (fraction_in base k (m % base)) (lt_of_le_of_lt (div-le_self m base) h) (fraction_exact base k (m % base) (m % base * q) (mod-lt m b) d) ∙ s

pub parts_time : (ms : ℕ) → ms < 2 ^ 64 → parts 1000 (time ms) ≡ ms
unfolding time
parts_time ms h =
    let a : 48 + ms / 100 % 10 - 48 ≡ ms / 100 % 10 = omega arith in
    let b : 48 + ms / 10 % 10 - 48 ≡ ms / 10 % 10 = omega arith in
    let c : 48 + ms % 10 - 48 ≡ ms % 10 = omega arith in
    parts_of_lem 1000 (ms / 1000) (ms % 1000) (digit (ms / 100) ∷ digit (ms / 10) ∷ digit ms ∷ []) (omega arith) (rw (a, b, c) (omega arith)) ∙ omega arith

-- a text that begins with a digit has no minus
unsigned : (bias : ℕ) (value : List ℕ → ℕ) (t : List ℕ) → code "0" ≤ first t → from_bias bias value t ≡ bias + value t
unsigned bias value [] h = absurd (omega arith)
unsigned bias value (b ∷ s) h = rw (ne_eqb b 45 (λ z. omega arith))

-- a number and its bias, behind a minus where it is below
pub from_bias_lem : (bias : ℕ) (show : ℕ → List ℕ) (value : List ℕ → ℕ) (v : ℕ) → ((n : ℕ) → code "0" ≤ first (show n)) → ((n : ℕ) → n ≤ bias → value (show n) ≡ n)
    → v ≤ bias + bias → from_bias bias value (signed bias show v) ≡ v
from_bias_lem bias show value v digits back h = go (ltb v bias) refl
  where
    go : (t : Bool) → ltb v bias ≡ t → from_bias bias value (cond t (code "-" ∷ show (bias - v)) (show (v - bias))) ≡ v
    go true e = let l = ltb-true v bias e in rw (back (bias - v) (omega arith)) (omega arith)
    go false e =
        let l = ltb-false v bias e in
        unsigned bias value (show (v - bias)) (digits (v - bias)) ∙ rw (back (v - bias) (omega arith)) (omega arith)

-- what is accepted is in range and its own text
accepted_only : (write : ℕ → List ℕ) (in_range : ℕ → Bool) (t : List ℕ) (x y : ℕ) → accepted write in_range t x ≡ Some y → (in_range y ≡ true) × (write y ≡ t)
accepted_only write in_range t x y e = go (in_range x) refl (same (write x) t) refl e
  where
    go : (a : Bool) → in_range x ≡ a → (b : Bool) → same (write x) t ≡ b → cond (a && b) (Some x) None ≡ Some y → (in_range y ≡ true) × (write y ≡ t)
    go true p true q k = let z : x ≡ y = cc in rw (← z) (p, same_true (write x) t q)
    go true p false q k = let z : ◌≡◌ {A = ℕ} 0 1 = cc in absurd (omega arith)
    go false p b q k = let z : ◌≡◌ {A = ℕ} 0 1 = cc in absurd (omega arith)

-- a reader by `accepted` reads exactly what is written, where the value of a text is the number that it was written for
pub exactly : (write : ℕ → List ℕ) (in_range : ℕ → Bool) (value : List ℕ → ℕ) → ((x : ℕ) → in_range x ≡ true → value (write x) ≡ x)
    → Exactly (λ t. accepted write in_range t (value t)) write in_range
exactly write in_range value back =
    record {
      back = λ x r. rw (back x r, r, same_refl (write x));
      only = λ t x e. accepted_only write in_range t (value t) x e;
    }
