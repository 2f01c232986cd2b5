-- What is read as a difference of floats: exactly the exact decimals, and the plain ones as before.
use Rattle.std.specs.Prelude.{Some, None}
use Prim.Native.Nat.{ℕ, ◌+◌, ◌-◌, ◌*◌, ◌/◌, ◌%◌, ◌^◌, ◌≤◌, ◌<◌, min}
use native.Mathlib.Nat.{mod-one, div-add-mod', mul_assoc, mul-div_cancel, mul-mod_left, one-le-pow, eq_of_mul-eq-mul_right, eq-zero-or-pos}
use native.Mathlib.Omega.{arith}
use mathlib.Core.Path.{◌≡◌, refl, ap, ap₂, sym, ◌∙◌, subst}
use mathlib.Core.Logic.{◌⊎◌, inl, inr, ⊎_elim}
use mathlib.Core.Bool.{Bool, true, false, not, cond, ◌||◌, and-eq-true_iff, false≢true}
use mathlib.Core.List.{List, [], ◌∷◌, ◌++◌, append-nil}
use lib.Dec.{eqb, leb}
use lib.ListN.{length, drop, length-append}
use lib.Pow.{pow-add}
use borrow.Author.Tests.{le-leb, leb-true, eqb-true, eq-eqb, ne_eqb}
use Rattle.output.specs.Text.{is_digit, all, run, behind_run}
use Rattle.output.specs.Read.{value_from}
use Rattle.output.proofs.TextLaws.{digit_range}
use Rattle.output.proofs.RunLaws.{run-append, behind-append}
use Rattle.scientific.specs.Decimal.{behind_sign, behind_point, is_minus, exponent_ok, whole_digits, fraction_digits, digits, exponent, is_scientific, places_up, places_down, is_whole, millionths, scientific_ok}
use Rattle.value.specs.Parameter.{whole, behind_whole, whole_ok, fraction_ok, plain_decimal, fraction, units, decimal_ok, float_difference_of}
use Rattle.value.specs.Exact.{Exact, Reads}
use Rattle.value.proofs.DecimalLaws.{answer, units_are}

-- ---- v with the point moved to the right and to the left

-- a and b, with what both powers share, p
shared_out : (v a b p : ℕ) → 0 < b → v % b ≡ 0 → v * a / b * (b * p) ≡ v * (a * p)
shared_out v a b p h e =
    let s : v / b * b ≡ v = omega (arith, div-add-mod' v b) in
    let q : v * a / b ≡ v / b * a = ap (λ (x : ℕ). x / b) (ap (λ (x : ℕ). x * a) (sym s) ∙ omega arith) ∙ mul-div_cancel (v / b * a) h in
    ap (λ (x : ℕ). x * (b * p)) q ∙ omega arith ∙ ap (λ (x : ℕ). x * (a * p)) s

shared_in_lem : (v a b p n : ℕ) → 0 < b → 0 < p → ((a ≡ 1) ⊎ (b ≡ 1)) → n * (b * p) ≡ v * (a * p) → (v % b ≡ 0) × (v * a / b ≡ n)
shared_in_lem v a b p n hb hp one e = (whole_in one, ap (λ (x : ℕ). x / b) (sym s) ∙ mul-div_cancel n hb)
  where
    s : n * b ≡ v * a
    s = eq_of_mul-eq-mul_right p hp (n * b) (v * a) (mul_assoc n b p ∙ e ∙ sym (mul_assoc v a p))

    whole_in : (a ≡ 1) ⊎ (b ≡ 1) → v % b ≡ 0
    whole_in (inl q) = let z : v ≡ n * b = omega (arith, s, ap (λ (x : ℕ). v * x) q) in ap (λ (x : ℕ). x % b) z ∙ mul-mod_left n b
    whole_in (inr q) = ap (λ (x : ℕ). v % x) q ∙ mod-one v

module _ (v up down : ℕ) where
  up_is : 10 ^ up ≡ 10 ^ (up - down) * 10 ^ min up down
  up_is = let s : up ≡ (up - down) + min up down = omega arith in ap (λ (k : ℕ). 10 ^ k) s ∙ pow-add 10 (up - down) (min up down)

  down_is : 10 ^ down ≡ 10 ^ (down - up) * 10 ^ min up down
  down_is = let s : down ≡ (down - up) + min up down = omega arith in ap (λ (k : ℕ). 10 ^ k) s ∙ pow-add 10 (down - up) (min up down)

  one_of : (10 ^ (up - down) ≡ 1) ⊎ (10 ^ (down - up) ≡ 1)
  one_of =
      ⊎_elim
      (λ (z : up - down ≡ 0). inl (ap (λ (k : ℕ). 10 ^ k) z))
      (λ (z : 0 < up - down). let y : down - up ≡ 0 = omega arith in inr (ap (λ (k : ℕ). 10 ^ k) y))
      (eq-zero-or-pos (up - down))

  shifted_out : v % 10 ^ (down - up) ≡ 0 → v * 10 ^ (up - down) / 10 ^ (down - up) * 10 ^ down ≡ v * 10 ^ up
  shifted_out e =
      ap (λ (x : ℕ). v * 10 ^ (up - down) / 10 ^ (down - up) * x) down_is
      ∙ shared_out v (10 ^ (up - down)) (10 ^ (down - up)) (10 ^ min up down) (one-le-pow (down - up) 10 (omega arith)) e
      ∙ ap (λ (x : ℕ). v * x) (sym up_is)

  shifted_in : (n : ℕ) → n * 10 ^ down ≡ v * 10 ^ up → (v % 10 ^ (down - up) ≡ 0) × (v * 10 ^ (up - down) / 10 ^ (down - up) ≡ n)
  shifted_in n e =
      shared_in_lem v (10 ^ (up - down)) (10 ^ (down - up)) (10 ^ min up down) n (one-le-pow (down - up) 10 (omega arith)) (one-le-pow (min up down) 10 (omega arith)) one_of
      (ap (λ (x : ℕ). n * x) (sym down_is) ∙ e ∙ ap (λ (x : ℕ). v * x) up_is)

-- ---- what is read

only_exact : (t : List ℕ) (n : ℕ) → float_difference_of t ≡ Some n → Exact t n
unfolding float_difference_of scientific_ok is_whole millionths
only_exact t n h = go (scientific_ok 2097152000000 t) refl h
  where
    go : (b : Bool) → scientific_ok 2097152000000 t ≡ b → cond b (Some (millionths t)) None ≡ Some n → Exact t n
    go false q e = let z : ◌≡◌ {A = ℕ} 0 1 = cc in absurd (omega arith)
    go true q e =
        let z : millionths t ≡ n = cc in
        let a = (and-eq-true_iff (is_scientific t) _).0 q in
        let b = (and-eq-true_iff (is_whole t) _).0 a.1 in
        let c = (and-eq-true_iff (leb (millionths t) 2097152000000) _).0 b.1 in
        record {
          form = a.0;
          number = ap (λ (k : ℕ). k * 10 ^ places_down t) (sym z) ∙ shifted_out (value_from 0 (digits t)) (places_up t) (places_down t) (eqb-true _ 0 b.0);
          most = subst (λ (k : ℕ). k ≤ 2097152000000) z (leb-true _ _ c.0);
          sign = λ m. sym z ∙ eqb-true (millionths t) 0 (ap (λ (s : Bool). not s || eqb (millionths t) 0) (sym m) ∙ c.1);
        }

every_exact : (t : List ℕ) (n : ℕ) → Exact t n → float_difference_of t ≡ Some n
unfolding float_difference_of scientific_ok is_whole millionths
every_exact t n x =
    let m = shifted_in (value_from 0 (digits t)) (places_up t) (places_down t) n x.number in
    rw (x.form, eq-eqb _ 0 m.0, m.1, le-leb n 2097152000000 x.most, signed (is_minus t) x.sign)
  where
    signed : (b : Bool) → (b ≡ true → n ≡ 0) → (not b || eqb n 0) ≡ true
    signed true f = eq-eqb n 0 (f refl)
    signed false f = refl

-- ---- what was read before

no_sign : (t : List ℕ) → whole_ok (whole t) ≡ true → (behind_sign t ≡ t) × (is_minus t ≡ false)
no_sign [] h = absurd (false≢true h)
no_sign (b ∷ s) h = go (is_digit b) refl h
  where
    go : (d : Bool) → is_digit b ≡ d → whole_ok (cond d (b ∷ run is_digit s) []) ≡ true → (behind_sign (b ∷ s) ≡ b ∷ s) × (is_minus (b ∷ s) ≡ false)
    go false q e = absurd (false≢true e)
    go true q e =
        let r = digit_range b q in
        let plus : eqb b 43 ≡ false = ne_eqb b 43 (λ (z : b ≡ 43). omega (arith, r.0)) in
        let minus : eqb b 45 ≡ false = ne_eqb b 45 (λ (z : b ≡ 45). omega (arith, r.0)) in
        (rw (plus, minus), minus)

digits_only : (s : List ℕ) → all is_digit s ≡ true → (run is_digit s ≡ s) × (behind_run is_digit s ≡ [])
digits_only s h =
    (subst (λ (x : List ℕ). run is_digit x ≡ s) (append-nil s) (run-append is_digit s [] h ∙ append-nil s), subst (λ (x : List ℕ). behind_run is_digit x ≡ []) (append-nil s) (behind-append is_digit s [] h))

plain_parts : (s : List ℕ) → fraction_ok s ≡ true → (run is_digit (behind_point s) ≡ drop 1 s) × (behind_run is_digit (behind_point s) ≡ [])
plain_parts [] h = (refl, refl)
plain_parts (b ∷ s) h =
    let a = (and-eq-true_iff (eqb b 46) _).0 h in
    let d = digits_only s ((and-eq-true_iff (leb 1 (length s)) _).0 a.1).1 in
    (rw a.0 d.0, rw a.0 d.1)

whole_some : (w : List ℕ) → whole_ok w ≡ true → 1 ≤ length w
whole_some [] h = absurd (false≢true h)
whole_some (b ∷ w) h = omega arith

-- the parts of a plain decimal
record Plain (t : List ℕ) : Type 0 where
  whole_is : whole_digits t ≡ whole t
  fraction_is : fraction_digits t ≡ fraction t
  no_exponent : exponent t ≡ []
  no_minus : is_minus t ≡ false
  some : 1 ≤ length (whole t)

plain : (t : List ℕ) → plain_decimal t ≡ true → Plain t
plain t h =
    let b = (and-eq-true_iff (whole_ok (whole t)) (fraction_ok (behind_whole t))).0 h in
    let p = no_sign t b.0 in
    let f = plain_parts (behind_whole t) b.1 in
    record {
      whole_is = ap whole p.0;
      fraction_is = ap (λ (u : List ℕ). run is_digit (behind_point (behind_whole u))) p.0 ∙ f.0;
      no_exponent = ap (λ (u : List ℕ). behind_run is_digit (behind_point (behind_whole u))) p.0 ∙ f.1;
      no_minus = p.1;
      some = whole_some (whole t) b.0;
    }

-- its number is that of its digits, moved by six places and back by those of its fraction
plain_number : (t : List ℕ) → Plain t → length (fraction t) ≤ 6 → units 6 t * 10 ^ places_down t ≡ value_from 0 (digits t) * 10 ^ places_up t
plain_number t p s =
    let l = length (fraction t) in
    let z : (6 - l) + l ≡ 6 = omega arith in
    let e : 10 ^ (6 - l) * 10 ^ l ≡ 10 ^ 6 = sym (pow-add 10 (6 - l) l) ∙ ap (λ (k : ℕ). 10 ^ k) z in
    let v = value_from 0 (whole t ++ fraction t) in
    let o : l + 0 ≡ l = omega arith in
    rw (p.whole_is, p.fraction_is, p.no_exponent) (ap₂ (λ (n k : ℕ). n * 10 ^ k) (units_are 6 t s) o ∙ mul_assoc v (10 ^ (6 - l)) (10 ^ l) ∙ ap (λ (x : ℕ). v * x) e)

plain_exact : (t : List ℕ) → plain_decimal t ≡ true → length (fraction t) ≤ 6 → units 6 t ≤ 2097152000000 → Exact t (units 6 t)
unfolding is_scientific exponent_ok
plain_exact t h s m =
    let p = plain t h in
    let l : 1 ≤ length (whole t ++ fraction t) = omega (arith, length-append (whole t) (fraction t), p.some) in
    record {
      form = rw (p.whole_is, p.fraction_is, p.no_exponent, le-leb 1 (length (whole t ++ fraction t)) l);
      number = plain_number t p s;
      most = m;
      sign = λ k. absurd (false≢true (sym p.no_minus ∙ k));
    }

-- a plain decimal is read as no other number
pub plain_only : (t : List ℕ) (n : ℕ) → plain_decimal t ≡ true → length (fraction t) ≤ 6 → float_difference_of t ≡ Some n → n ≡ units 6 t
plain_only t n h s e =
    eq_of_mul-eq-mul_right (10 ^ places_down t) (one-le-pow (places_down t) 10 (omega arith)) n (units 6 t) ((only_exact t n e).number ∙ sym (plain_number t (plain t h) s))

still_read : (t : List ℕ) → decimal_ok 6 0 2097152000000 t ≡ true → float_difference_of t ≡ Some (units 6 t)
unfolding decimal_ok
still_read t h =
    let a = (and-eq-true_iff (plain_decimal t) _).0 h in
    let k = (and-eq-true_iff (leb (length (fraction t)) 6) _).0 a.1 in
    let m = ((and-eq-true_iff (leb 0 (units 6 t)) _).0 k.1).1 in
    every_exact t (units 6 t) (plain_exact t a.0 (leb-true _ 6 k.0) (leb-true _ _ m))

pub reads : Reads
reads = record { only = only_exact; every = every_exact; still = still_read }

pub plain_read : (t : List ℕ) (n : ℕ) → answer 6 0 2097152000000 t ≡ Some n → float_difference_of t ≡ Some n
plain_read t n e = go (decimal_ok 6 0 2097152000000 t) refl e
  where
    go : (b : Bool) → decimal_ok 6 0 2097152000000 t ≡ b → cond b (Some (units 6 t)) None ≡ Some n → float_difference_of t ≡ Some n
    go true q e = still_read t q ∙ e
    go false q e = let z : ◌≡◌ {A = ℕ} 0 1 = cc in absurd (omega arith)
