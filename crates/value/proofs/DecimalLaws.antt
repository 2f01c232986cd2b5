-- A plain decimal taken apart at its point, and its number, up to one more than the most.
use Rattle.std.specs.Prelude.{Some, None, Option}
use Prim.Native.Nat.{ℕ, ◌+◌, ◌-◌, ◌*◌, ◌^◌, ◌<◌, ◌≤◌, min}
use native.Mathlib.Omega.{arith}
use mathlib.Core.Path.{◌≡◌, refl, ap, sym, ◌∙◌}
use mathlib.Core.Bool.{Bool, true, false, not, cond, ◌&&◌, ◌||◌, and-false, and-eq-true_iff, true≢false, false≢true}
use mathlib.Core.List.{List, [], ◌∷◌, ◌++◌}
use lib.Dec.{leb, ltb, eqb, eqb-suc-suc}
use lib.ListN.{length, drop, get_or}
use lib.Pow.{pow-add}
use borrow.Author.Tests.{le-leb, lt-leb, leb-true, ltb-true, ltb-false}
use Rattle.output.specs.Text.{is_digit}
use Rattle.output.specs.Read.{value_from}
use Rattle.output.proofs.ReadLaws.{value-append, value_from_lem}
use Rattle.output.proofs.RunLaws.{run_whole}
use Rattle.numbers.proofs.DigitLaws.{zeros_capped}
use Rattle.value.specs.Parameter.{whole, whole_ok, fraction_ok, plain_decimal, fraction, units, decimal_ok, integer_difference_of}

-- ---- the tests of each part

pub whole_none : (w : List ℕ) → length w ≡ 0 → false ≡ whole_ok w
whole_none [] h = refl
whole_none (b ∷ s) h = absurd (omega arith)

pub whole_some : (w : List ℕ) → (length w ≡ 0 → ⊥) → not (eqb (get_or w 0 0) 48) || eqb (length w) 1 ≡ whole_ok w
whole_some [] h = absurd (h refl)
whole_some (b ∷ s) h = rw (eqb-suc-suc (length s) 0)

pub fraction_none : (s : List ℕ) → length s ≡ 0 → true ≡ fraction_ok s
fraction_none [] h = refl
fraction_none (b ∷ s) h = absurd (omega arith)

pub fraction_some : (s rest : List ℕ) (n : ℕ) → (length s ≡ 0 → ⊥) → rest ≡ drop 1 s → n ≡ length (whole rest)
    → eqb (get_or s 0 0) 46 && (leb 1 (length rest) && eqb n (length rest)) ≡ fraction_ok s
fraction_some [] rest n h e f = absurd (h refl)
fraction_some (b ∷ s) rest n h e f = rw (f, e, run_whole is_digit s)

-- ---- the number

-- both parts, one after the other, with as many zeros as digits are missing behind the point
pub units_are : (k : ℕ) (t : List ℕ) → length (fraction t) ≤ k → units k t ≡ value_from 0 (whole t ++ fraction t) * 10 ^ (k - length (fraction t))
units_are k t h =
    let l = length (fraction t) in
    let z : l + (k - l) ≡ k = omega arith in
    let p : 10 ^ l * 10 ^ (k - l) ≡ 10 ^ k = sym (pow-add 10 l (k - l)) ∙ ap (λ (x : ℕ). 10 ^ x) z in
    rw (value-append 0 (whole t) (fraction t), value_from_lem (value_from 0 (whole t)) (fraction t), ← p) (omega arith)

abbrev pub answer : ℕ → ℕ → ℕ → List ℕ → Option ℕ
answer k least most t = cond (decimal_ok k least most t) (Some (units k t)) None

-- u is n up to one more than the most
out_of_range : (least most u n : ℕ) → u ≡ min n (most + 1) → ltb u least || ltb most u ≡ true → None ≡ cond (leb least n && leb n most) (Some n) None
out_of_range least most u n e h = go (ltb u least) refl (ltb most u) refl h
  where
    go : (a : Bool) → ltb u least ≡ a → (b : Bool) → ltb most u ≡ b → a || b ≡ true → None ≡ cond (leb least n && leb n most) (Some n) None
    go a p true q h = let l = ltb-true most u q in rw (lt-leb n most (omega arith), and-false (leb least n))
    go true p false q h = let l = ltb-true u least p in let m = ltb-false most u q in rw (lt-leb least n (omega arith))
    go false p false q h = absurd (false≢true h)

in_range_lem : (least most u n : ℕ) → u ≡ min n (most + 1) → ltb u least || ltb most u ≡ false → Some u ≡ cond (leb least n && leb n most) (Some n) None
in_range_lem least most u n e h = go (ltb u least) refl (ltb most u) refl h
  where
    go : (a : Bool) → ltb u least ≡ a → (b : Bool) → ltb most u ≡ b → a || b ≡ false → Some u ≡ cond (leb least n && leb n most) (Some n) None
    go false p false q h =
        let l = ltb-false u least p in
        let m = ltb-false most u q in
        let s : u ≡ n = omega arith in
        rw (le-leb least n (omega arith), le-leb n most (omega arith)) (ap Some s)
    go false p true q h = absurd (true≢false h)
    go true p b q h = absurd (true≢false h)

module _ (k least most : ℕ) (t : List ℕ) where
  pub not_plain : plain_decimal t ≡ false → None ≡ answer k least most t
  unfolding decimal_ok
  not_plain e = rw e

  module _ (plain : plain_decimal t ≡ true) where
    pub too_long : k < length (fraction t) → None ≡ answer k least most t
    unfolding decimal_ok
    too_long h = rw (plain, lt-leb (length (fraction t)) k h)

    -- the digits v of both parts, and the number u, up to one more than the most
    module _ (short : length (fraction t) ≤ k) (v u : ℕ) (ev : v ≡ min (value_from 0 (whole t ++ fraction t)) (most + 1)) (eu : u ≡ min (v * 10 ^ (k - length (fraction t))) (most + 1)) where
      number : u ≡ min (units k t) (most + 1)
      number =
          eu
          ∙ ap (λ (x : ℕ). min (x * 10 ^ (k - length (fraction t))) (most + 1)) ev
          ∙ zeros_capped (most + 1) (value_from 0 (whole t ++ fraction t)) (k - length (fraction t))
          ∙ ap (λ (x : ℕ). min x (most + 1)) (sym (units_are k t short))

      pub out_is : ltb u least || ltb most u ≡ true → None ≡ answer k least most t
      unfolding decimal_ok
      out_is h = rw (plain, le-leb (length (fraction t)) k short) (out_of_range least most u (units k t) number h)

      pub in_is : ltb u least || ltb most u ≡ false → Some u ≡ answer k least most t
      unfolding decimal_ok
      in_is h = rw (plain, le-leb (length (fraction t)) k short) (in_range_lem least most u (units k t) number h)

-- ---- in millionths

pub answer_below : (k least most : ℕ) (t : List ℕ) (n : ℕ) → Some n ≡ answer k least most t → n ≤ most
unfolding decimal_ok
answer_below k least most t n e = go (decimal_ok k least most t) refl e
  where
    go : (a : Bool) → decimal_ok k least most t ≡ a → Some n ≡ cond a (Some (units k t)) None → n ≤ most
    go true p e =
        let z : n ≡ units k t = cc in
        let q = ((and-eq-true_iff (plain_decimal t) _).0 p).1 in
        let r = ((and-eq-true_iff (leb (length (fraction t)) k) _).0 q).1 in
        let l = leb-true (units k t) most ((and-eq-true_iff (leb least (units k t)) _).0 r).1 in
        omega arith
    go false p e = let z : ◌≡◌ {A = ℕ} 0 1 = cc in absurd (omega arith)

abbrev millionths : Option ℕ → Option ℕ
millionths (Some n) = Some (n * 1000000)
millionths None = None

pub in_millionths : (p : Option ℕ) (t : List ℕ) → p ≡ answer 0 0 4294967295 t → millionths p ≡ integer_difference_of t
unfolding integer_difference_of
in_millionths p t e = ap millionths e ∙ go (decimal_ok 0 0 4294967295 t)
  where
    go : (ok : Bool) → millionths (cond ok (Some (units 0 t)) None) ≡ cond ok (Some (units 0 t * 1000000)) None
    go true = refl
    go false = refl
