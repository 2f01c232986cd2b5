-- The number that digits make, up to a cap, and a number without its last digits.
use Prim.Native.Nat.{ℕ, suc, ◌+◌, ◌-◌, ◌*◌, ◌/◌, ◌^◌, ◌<◌, ◌≤◌, min}
use native.Mathlib.Nat.{le_refl, min-eq_left, mul-le-mul_left, mul-le-mul_right, one-le-pow, pow-suc, div-div-eq-div-mul, eq-zero-or-pos}
use native.Mathlib.Numerals.{add-one}
use native.Mathlib.Omega.{arith}
use mathlib.Core.Path.{◌≡◌, ap, ◌∙◌}
use mathlib.Core.Logic.{⊎_elim}
use mathlib.Core.Bool.{true, and-eq-true_iff}
use mathlib.Core.List.{List, [], ◌∷◌, ◌++◌}
use lib.ListN.{length, drop, get_or, drop_of_length-le}
use lib.Seq.{drop-cons}
use Rattle.output.specs.Text.{is_digit, all}
use Rattle.output.specs.Read.{value_from}
use Rattle.output.proofs.TextLaws.{digit_range}
use Rattle.output.proofs.ReadLaws.{value-append, value_from_lem}

-- k digits make less than 10^k
pub value_below : (s : List ℕ) → all is_digit s ≡ true → value_from 0 s < 10 ^ length s
value_below [] e = omega arith
value_below (b ∷ s) e =
    let p = (and-eq-true_iff (is_digit b) (all is_digit s)).0 e in
    let i = value_below s p.1 in
    let d : 0 * 10 + (b - 48) ≤ 9 = omega (arith, (digit_range b p.0).1) in
    let m = mul-le-mul_right (10 ^ length s) d in
    rw (value_from_lem (0 * 10 + (b - 48)) s, pow-suc 10 (length s)) (omega arith)

-- digits only make a number larger
value_grows : (a : ℕ) (s : List ℕ) → a ≤ value_from a s
value_grows a [] = le_refl a
value_grows a (b ∷ s) = let h = value_grows (a * 10 + (b - 48)) s in omega arith

-- so that a cap c may be applied on the way
pub value_capped : (c a : ℕ) (s : List ℕ) → min (value_from (min a c) s) c ≡ min (value_from a s) c
value_capped c a s =
    ⊎_elim
    (λ (z : a - c ≡ 0). let h : a ≤ c = omega arith in rw (min-eq_left h))
    (λ (z : 0 < a - c). let e : min a c ≡ c = omega arith in let x = value_grows c s in let y = value_grows a s in rw e (omega arith))
    (eq-zero-or-pos (a - c))

pub value_more : (c : ℕ) (t : List ℕ) (i n : ℕ) → i < length t → min (value_from (min (n * 10 + (get_or t i 0 - 48)) c) (drop (i + 1) t)) c ≡ min (value_from n (drop i t)) c
value_more c t i n h = rw (add-one i, drop-cons t i 0 h) (value_capped c (n * 10 + (get_or t i 0 - 48)) (drop (suc i) t))

pub value_end : (t : List ℕ) (i n : ℕ) → length t ≤ i → value_from n (drop i t) ≡ n
value_end t i n h = rw (drop_of_length-le t h)

-- the digits of two texts, one after the other
pub value_both : (c a : ℕ) (xs ys : List ℕ) → min (value_from (min (value_from a xs) c) ys) c ≡ min (value_from a (xs ++ ys)) c
value_both c a xs ys = rw value-append (value_capped c (value_from a xs) ys)

-- a zero more behind a number, with the cap c
pub zero_more : (c n i : ℕ) → min (min (n * 10 ^ i) c * 10 + (48 - 48)) c ≡ min (n * 10 ^ (i + 1)) c
zero_more c n i = rw (add-one i, pow-suc 10 i) (value_capped c (n * 10 ^ i) (48 ∷ []) ∙ ap (λ (m : ℕ). min m c) (omega arith))

-- a cap c before zeros are added, and behind
pub zeros_capped : (c a i : ℕ) → min (min a c * 10 ^ i) c ≡ min (a * 10 ^ i) c
zeros_capped c a i =
    let p = one-le-pow i 10 (omega arith) in
    ⊎_elim
    (λ (z : a - c ≡ 0). let h : a ≤ c = omega arith in rw (min-eq_left h))
    (λ (z : 0 < a - c).
    let e : min a c ≡ c = omega arith in
    let l : c ≤ a = omega arith in
    let x = mul-le-mul_left c p in
    let y = mul-le-mul_right (10 ^ i) l in
    rw e (omega arith))
    (eq-zero-or-pos (a - c))

-- one digit less
pub digit_less : (n i : ℕ) → n / 10 ^ i / 10 ≡ n / 10 ^ (i + 1)
digit_less n i = rw (add-one i, pow-suc 10 i) (div-div-eq-div-mul n (10 ^ i) 10)
