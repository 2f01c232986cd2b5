-- A point moved among digits: those before it make the number, those behind it must make 0.
use Prim.Native.Nat.{ℕ, zero, suc, ◌+◌, ◌-◌, ◌*◌, ◌^◌, ◌≤◌, ◌<◌, min}
use native.Mathlib.Nat.{le_refl, mod-one, div-one, mod-eq_of_lt, div-eq_of_lt, mul-add-div_right, mul-add-mod_self_right, one-le-pow, pow-le-pow_right, eq-zero-or-pos}
use native.Mathlib.Omega.{arith}
use mathlib.Core.Path.{◌≡◌, refl, ap, sym, ◌∙◌}
use mathlib.Core.Logic.{⊎_elim}
use mathlib.Core.Bool.{Bool, true, false, cond, and-eq-true_iff}
use mathlib.Core.List.{List, [], ◌∷◌, ◌++◌, append-nil, append_assoc}
use lib.Dec.{eqb}
use lib.ListN.{length, take, drop, length-append, length-drop, take-append-drop, drop_of_length-le}
use lib.Seq.{take_all}
use borrow.Author.Tests.{eq-eqb, ne_eqb}
use Rattle.output.specs.Text.{is_digit, all}
use Rattle.output.specs.Read.{value_from}
use Rattle.output.proofs.ReadLaws.{value-append, value_from_lem}
use Rattle.output.proofs.RunLaws.{all_append}
use Rattle.numbers.proofs.DigitLaws.{value_below, zeros_capped}
use Rattle.scientific.specs.Shifted.{above, shifted}

all_drop : (is : ℕ → Bool) (n : ℕ) (s : List ℕ) → all is s ≡ true → all is (drop n s) ≡ true
all_drop is zero s h = h
all_drop is (suc n) [] h = refl
all_drop is (suc n) (b ∷ s) h = all_drop is n s ((and-eq-true_iff (is b) (all is s)).0 h).1

-- what the digits that are kept and those that are cut off make, with zeros behind
abbrev made : ℕ → List ℕ → List ℕ → ℕ
made zeros kept cut = cond (eqb (value_from 0 cut) 0) (min (value_from 0 kept * 10 ^ zeros) above) above

-- zeros behind all digits
raised_is : (s : List ℕ) (up down z : ℕ) → up ≡ down + z → shifted (value_from 0 s) up down ≡ made z s []
unfolding shifted
raised_is s up down z e =
    let a : up - down ≡ z = omega arith in
    let b : down - up ≡ 0 = omega arith in
    rw (a, b, mod-one (value_from 0 s), div-one (value_from 0 s * 10 ^ z))

-- some digits cut off
module _ (kept cut : List ℕ) (h : all is_digit cut ≡ true) where
  split : value_from 0 (kept ++ cut) ≡ value_from 0 kept * 10 ^ length cut + value_from 0 cut
  split = value-append 0 kept cut ∙ value_from_lem (value_from 0 kept) cut

  cut_is : (up down : ℕ) → down ≡ up + length cut → shifted (value_from 0 (kept ++ cut)) up down ≡ made 0 kept cut
  unfolding shifted
  cut_is up down e =
      let c : down - up ≡ length cut = omega arith in
      let z : up - down ≡ 0 = omega arith in
      let v = value_from 0 kept in
      let l = value_below cut h in
      let one : (v * 10 ^ length cut + value_from 0 cut) * 10 ^ 0 ≡ v * 10 ^ length cut + value_from 0 cut = omega arith in
      let m = mul-add-mod_self_right v (10 ^ length cut) (value_from 0 cut) ∙ mod-eq_of_lt l in
      let d = mul-add-div_right (one-le-pow (length cut) 10 (omega arith)) v (value_from 0 cut) ∙ ap (λ (x : ℕ). v + x) (div-eq_of_lt l) in
      let k : v + 0 ≡ v * 10 ^ 0 = omega arith in
      rw (c, z, split, one, m, d, k)

-- all digits cut off, and more places
below_is : (s : List ℕ) (up down : ℕ) → all is_digit s ≡ true → up + length s ≤ down → shifted (value_from 0 s) up down ≡ made 0 [] s
unfolding shifted
below_is s up down h l =
    let z : up - down ≡ 0 = omega arith in
    let p : 10 ^ length s ≤ 10 ^ (down - up) = pow-le-pow_right (omega arith) (omega arith) in
    let v : value_from 0 s < 10 ^ (down - up) = omega (arith, value_below s h) in
    let one : value_from 0 s * 10 ^ 0 ≡ value_from 0 s = omega arith in
    rw (z, one, mod-eq_of_lt v, div-eq_of_lt v)

-- ---- the digits w, a point and the digits f

module _ (w f : List ℕ) (dw : all is_digit w ≡ true) (df : all is_digit f ≡ true) (up down : ℕ) where
  -- the digits of w before the point, and of f
  abbrev keep : ℕ
  keep = length w - (down - up)

  abbrev right : ℕ
  right = up - down

  -- the point goes right past all digits, or stays among those of f
  right_is : down ≤ up → shifted (value_from 0 (w ++ f)) up (length f + down) ≡ made (right - length f) (w ++ take right f) (drop right f)
  right_is h =
      ⊎_elim
      (λ (z : length f - right ≡ 0).
      let l : length f ≤ right = omega arith in
      rw (take_all right f l, drop_of_length-le f l) (raised_is (w ++ f) up (length f + down) (right - length f) (omega arith)))
      (λ (z : 0 < length f - right).
      let n : right - length f ≡ 0 = omega arith in
      let e = append_assoc w (take right f) (drop right f) ∙ ap (λ (s : List ℕ). w ++ s) (take-append-drop right f) in
      ap (λ (s : List ℕ). shifted (value_from 0 s) up (length f + down)) (sym e)
      ∙ cut_is (w ++ take right f) (drop right f) (all_drop is_digit right f df) up (length f + down) (omega (arith, length-drop right f))
      ∙ ap (λ (k : ℕ). made k (w ++ take right f) (drop right f)) (sym n))
      (eq-zero-or-pos (length f - right))

  -- it goes left among those of w, or past all of them
  left_is : up ≤ down → shifted (value_from 0 (w ++ f)) up (length f + down) ≡ made 0 (take keep w) (drop keep w ++ f)
  left_is h =
      ⊎_elim
      (λ (z : down - up - length w ≡ 0).
      let e = sym (append_assoc (take keep w) (drop keep w) f) ∙ ap (λ (s : List ℕ). s ++ f) (take-append-drop keep w) in
      ap (λ (s : List ℕ). shifted (value_from 0 s) up (length f + down)) (sym e)
      ∙ cut_is (take keep w) (drop keep w ++ f) (all_append is_digit (drop keep w) f (all_drop is_digit keep w dw) df) up (length f + down)
      (omega (arith, length-append (drop keep w) f, length-drop keep w)))
      (λ (z : 0 < down - up - length w).
      let n : length w - (down - up) ≡ 0 = omega arith in
      rw n (below_is (w ++ f) up (length f + down) (all_append is_digit w f dw df) (omega (arith, length-append w f))))
      (eq-zero-or-pos (down - up - length w))

  shifted_is : shifted (value_from 0 (w ++ f)) up (length f + down) ≡ made (right - length f) (take keep w ++ take right f) (drop keep w ++ drop right f)
  shifted_is =
      ⊎_elim
      (λ (z : down - up ≡ 0).
      let n : length w - (down - up) ≡ length w = omega arith in
      rw (n, take_all (length w) w (le_refl (length w)), drop_of_length-le w (le_refl (length w))) (right_is (omega arith)))
      (λ (z : 0 < down - up).
      let n : up - down ≡ 0 = omega arith in
      let o : 0 - length f ≡ 0 = omega arith in
      rw (n, o, append-nil (take keep w)) (left_is (omega arith)))
      (eq-zero-or-pos (down - up))

  -- ---- as the code computes it: what is left behind up to 1, what is kept up to `above`
  module _ {r k : ℕ} (er : r ≡ right) (ek : k ≡ keep) {cw cf : List ℕ} (ew : cw ≡ drop k w) (ef : cf ≡ drop r f) {behind : ℕ} (eb : behind ≡ min (value_from 0 (cw ++ cf)) 1) where
    cut_off : value_from 0 (cw ++ cf) ≡ value_from 0 (drop keep w ++ drop right f)
    cut_off = rw (ew, ef, er, ek)

    pub not_whole : 0 < behind → above ≡ shifted (value_from 0 (w ++ f)) up (length f + down)
    not_whole h =
        let n : eqb (value_from 0 (drop keep w ++ drop right f)) 0 ≡ false = ne_eqb (value_from 0 (drop keep w ++ drop right f)) 0 (λ z. omega (arith, cut_off)) in
        sym (shifted_is ∙ ap (λ (b : Bool). cond b (min (value_from 0 (take keep w ++ take right f) * 10 ^ (right - length f)) above) above) n)

    pub whole : behind ≤ 0 → {kw kf : List ℕ} {z v n : ℕ} → kw ≡ take k w → kf ≡ take r f → z ≡ r - length f → v ≡ min (value_from 0 (kw ++ kf)) above
        → n ≡ min (v * 10 ^ z) above → n ≡ shifted (value_from 0 (w ++ f)) up (length f + down)
    whole h {kw} {kf} {z} {v} {n} a b c d e =
        let s : eqb (value_from 0 (drop keep w ++ drop right f)) 0 ≡ true = eq-eqb (value_from 0 (drop keep w ++ drop right f)) 0 (omega (arith, cut_off)) in
        rw (e, d, a, b, c, er, ek) (zeros_capped above (value_from 0 (take keep w ++ take right f)) (right - length f))
        ∙ sym (shifted_is ∙ ap (λ (t : Bool). cond t (min (value_from 0 (take keep w ++ take right f) * 10 ^ (right - length f)) above) above) s)
