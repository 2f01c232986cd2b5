-- A decimal read: its parts, its exponent, and the tests of the definition.
use Rattle.std.specs.Prelude.{Some, None, Option}
use Prim.Native.Nat.{ℕ, ◌+◌, ◌-◌, ◌≤◌, ◌<◌, ◌^◌, min}
use Prim.Native.Char.{code}
use native.Mathlib.Nat.{min-eq_left, pow-le-pow_right, eq-zero-or-pos}
use native.Mathlib.Omega.{arith}
use mathlib.Core.Path.{◌≡◌, refl, ap, ap₂, sym, ◌∙◌}
use mathlib.Core.Logic.{⊎_elim}
use mathlib.Core.Bool.{Bool, true, false, not, cond, ◌&&◌, ◌||◌, and-eq-true_iff}
use mathlib.Core.List.{List, [], ◌∷◌, ◌++◌}
use lib.Dec.{eqb, leb, ltb}
use lib.ListN.{length, drop}
use borrow.Author.Tests.{le-leb, lt-leb, leb-true, lt-ltb, ne_eqb}
use Rattle.output.specs.Text.{is_digit, all, run, behind_run}
use Rattle.output.specs.Read.{value_from}
use Rattle.output.proofs.RunLaws.{run_all, run_whole}
use Rattle.texts.specs.Class.{begins}
use Rattle.numbers.proofs.DigitLaws.{value_below}
use Rattle.scientific.specs.Decimal.{is_minus, behind_sign, behind_point, exponent_digits, exponent_ok, raised, lowered, whole_digits, after_point, fraction_digits, exponent, is_scientific, is_whole, millionths, scientific_ok}
use Rattle.scientific.specs.Shifted.{above, shifted}

-- ---- the exponent

pub exponent_tests : (e d : List ℕ) (x y : Bool) (m : ℕ) → x ≡ begins (code "e") e → y ≡ begins (code "E") e → d ≡ exponent_digits e → m ≡ length (run is_digit d)
    → (eqb (length e) 0 || ((x || y) && (leb 1 (length d) && (leb (length d) 3 && eqb m (length d))))) ≡ exponent_ok e
unfolding exponent_ok
exponent_tests e d x y m a b c h = rw (a, b, h, c, run_whole is_digit (exponent_digits e))

-- it is below 1,000
small : (s : List ℕ) → length s ≤ 3 → all is_digit s ≡ true → min (value_from 0 s) 1000 ≡ value_from 0 s
small s h d =
    let p : 10 ^ length s ≤ 10 ^ 3 = pow-le-pow_right (omega arith) h in
    let v : value_from 0 s ≤ 1000 = omega (arith, value_below s d) in
    min-eq_left v

pub or_second : (a b : Bool) → a ≡ false → a || b ≡ true → b ≡ true
or_second a b e h = sym (ap (λ (x : Bool). x || b) e) ∙ h

exponent_small : (e : List ℕ) → exponent_ok e ≡ true → min (value_from 0 (exponent_digits e)) 1000 ≡ value_from 0 (exponent_digits e)
unfolding exponent_ok
exponent_small [] h = refl
exponent_small (b ∷ e) h =
    let s : List ℕ = exponent_digits (b ∷ e) in
    let some : eqb (length (b ∷ e)) 0 ≡ false = ne_eqb (length (b ∷ e)) 0 (λ z. omega arith) in
    let k = ((and-eq-true_iff (begins (code "e") (b ∷ e) || begins (code "E") (b ∷ e)) _).0 (or_second (eqb (length (b ∷ e)) 0) _ some h)).1 in
    let l = (and-eq-true_iff (leb (length s) 3) _).0 ((and-eq-true_iff (leb 1 (length s)) _).0 k).1 in
    small s (leb-true (length s) 3 l.0) l.1

module _ (v f : ℕ) (e : List ℕ) {d r : List ℕ} {n : ℕ} {b : Bool} (ok : exponent_ok e ≡ true) (ed : d ≡ exponent_digits e) (en : n ≡ min (value_from 0 d) 1000) (er : r ≡ drop 1 e) (eb : b ≡ is_minus r) where
  size : n ≡ value_from 0 (exponent_digits e)
  size = en ∙ ap (λ (s : List ℕ). min (value_from 0 s) 1000) ed ∙ exponent_small e ok

  minus : b ≡ is_minus (drop 1 e)
  minus = eb ∙ ap is_minus er

  pub to_left : b ≡ true → shifted v 6 (f + n) ≡ shifted v (6 + raised e) (f + lowered e)
  to_left h =
      let q = sym minus ∙ h in
      ap₂ (λ (x y : ℕ). shifted v (6 + x) (f + y)) (sym (ap (λ (m : Bool). cond m 0 (value_from 0 (exponent_digits e))) q)) (size ∙ sym (ap (λ (m : Bool). cond m (value_from 0 (exponent_digits e)) 0) q))

  pub to_right : b ≡ false → shifted v (6 + n) (f + 0) ≡ shifted v (6 + raised e) (f + lowered e)
  to_right h =
      let q = sym minus ∙ h in
      ap₂ (λ (x y : ℕ). shifted v (6 + x) (f + y)) (size ∙ sym (ap (λ (m : Bool). cond m 0 (value_from 0 (exponent_digits e))) q)) (sym (ap (λ (m : Bool). cond m (value_from 0 (exponent_digits e)) 0) q))

-- ---- the parts

pub some_digits : (w f : List ℕ) → (ltb 0 (length w) || ltb 0 (length f)) ≡ leb 1 (length (w ++ f))
some_digits [] [] = refl
some_digits [] (x ∷ f) = lt-ltb 0 (length (x ∷ f)) (omega arith) ∙ sym (le-leb 1 (length (x ∷ f)) (omega arith))
some_digits (x ∷ w) f = rw (lt-ltb 0 (length (x ∷ w)) (omega arith), le-leb 1 (length (x ∷ (w ++ f))) (omega arith))

-- a number n that is k where x holds and k is not above the most
judged_is : (x : Bool) (k n : ℕ) (m : Bool) → n ≡ cond x (min k above) above
    → cond (leb n 2097152000000 && (not m || eqb n 0)) (Some n) None ≡ cond (x && (leb k 2097152000000 && (not m || eqb k 0))) (Some k) None
judged_is false k n m e = rw e
judged_is true k n m e =
    ⊎_elim
    (λ (z : k - 2097152000000 ≡ 0). let q : n ≡ k = omega arith in rw q)
    (λ (z : 0 < k - 2097152000000). rw (lt-leb n 2097152000000 (omega arith), lt-leb k 2097152000000 (omega arith)))
    (eq-zero-or-pos (k - 2097152000000))

-- the parts of a text before its exponent, and the exponent
pub record Parts (t w f e : List ℕ) : Type 0 where
  pub whole_is : w ≡ whole_digits t
  pub fraction_is : f ≡ fraction_digits t
  pub exponent_is : e ≡ exponent t

pub parts : {t u w bw b f e : List ℕ} → u ≡ behind_sign t → w ≡ run is_digit u → bw ≡ behind_run is_digit u → b ≡ behind_point bw → f ≡ run is_digit b → e ≡ behind_run is_digit b → Parts t w f e
parts {t} {u} {w} {bw} {b} {f} {e} eu ew ebw eb ef ee =
    let here : b ≡ behind_point (behind_run is_digit (behind_sign t)) = rw (eb, ebw, eu) in
    record { whole_is = rw (ew, eu); fraction_is = rw (ef, here); exponent_is = rw (ee, here) }

module _ {t w f e : List ℕ} (p : Parts t w f e) where
  -- the parts before the exponent are digits
  pub parts_digits : (all is_digit w ≡ true) × (all is_digit f ≡ true)
  parts_digits = (ap (all is_digit) p.whole_is ∙ run_all is_digit (behind_sign t), ap (all is_digit) p.fraction_is ∙ run_all is_digit (after_point t))

  module _ {s : Bool} (es : s ≡ leb 1 (length (w ++ f)) && exponent_ok e) where
    form : s ≡ is_scientific t
    unfolding is_scientific
    form = rw (es, p.whole_is, p.fraction_is, p.exponent_is)

    pub exponent_good : s ≡ true → exponent_ok e ≡ true
    exponent_good h = ((and-eq-true_iff (leb 1 (length (w ++ f))) (exponent_ok e)).0 (sym es ∙ h)).1

    pub no_form : s ≡ false → None ≡ cond (scientific_ok 2097152000000 t) (Some (millionths t)) None
    unfolding scientific_ok
    no_form h = rw (sym form ∙ h)

    pub judged : s ≡ true → {n : ℕ} {m : Bool} {r : Option ℕ} → n ≡ shifted (value_from 0 (w ++ f)) (6 + raised e) (length f + lowered e) → m ≡ is_minus t
        → r ≡ cond (leb n 2097152000000 && (not m || eqb n 0)) (Some n) None → r ≡ cond (scientific_ok 2097152000000 t) (Some (millionths t)) None
    unfolding scientific_ok is_whole millionths shifted
    judged h {n} {m} {r} en em er =
        let q : n ≡ cond (is_whole t) (min (millionths t) above) above = rw (en, p.whole_is, p.fraction_is, p.exponent_is) in
        er ∙ judged_is (is_whole t) (millionths t) n m q ∙ rw (sym form ∙ h, em)
