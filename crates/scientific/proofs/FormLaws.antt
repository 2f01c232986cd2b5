-- Which texts have the form.
use Prim.Native.Nat.{ℕ, ◌≤◌}
use Prim.Native.Char.{code}
use native.Mathlib.Omega.{arith}
use mathlib.Core.Path.{◌≡◌, refl, ap, ap₂, sym, ◌∙◌}
use mathlib.Core.Logic.{◌⊎◌, inl, inr}
use mathlib.Core.Bool.{Bool, true, false, cond, ◌||◌, and-eq-true_iff}
use mathlib.Core.List.{List, [], ◌∷◌, ◌++◌, append-nil}
use lib.Dec.{eqb, leb}
use lib.ListN.{length, take, drop, take-append-drop}
use borrow.Author.Tests.{le-leb, leb-true, eqb-true, ne_eqb}
use Rattle.output.specs.Text.{text, same, is_digit, all, run, behind_run}
use Rattle.output.specs.Read.{value_from}
use Rattle.output.proofs.TextLaws.{digit_range}
use Rattle.output.proofs.RunLaws.{run_take, run_drop, run_all, run-append, behind-append}
use Rattle.texts.specs.Class.{begins}
use Rattle.scientific.specs.Decimal.{is_minus, behind_sign, behind_point, exponent_ok, whole_digits, after_point, fraction_digits, exponent, is_scientific}
use Rattle.scientific.specs.Form.{IsSign, Exponent, Spelling, ReadAs, Moves, Form}
use Rattle.scientific.proofs.ReadLaws.{or_second}

-- ---- signs

-- digits begin with no sign
digits_unsigned : (z : List ℕ) → all is_digit z ≡ true → (begins 43 z ≡ false) × (begins 45 z ≡ false)
digits_unsigned [] d = (refl, refl)
digits_unsigned (b ∷ z) d =
    let r = digit_range b ((and-eq-true_iff (is_digit b) (all is_digit z)).0 d).0 in
    (ne_eqb b 43 (λ (y : b ≡ 43). omega (arith, r.0)), ne_eqb b 45 (λ (y : b ≡ 45). omega (arith, r.0)))

-- a sign is cut off what begins with none
sign_cut : (g u : List ℕ) → (begins 43 u ≡ false) × (begins 45 u ≡ false) → IsSign g → (behind_sign (g ++ u) ≡ u) × (is_minus (g ++ u) ≡ same g (text "-"))
sign_cut g u n (inl h) = rw h (rw (n.0, n.1), n.1)
sign_cut g u n (inr (inl h)) = rw h (refl, refl)
sign_cut g u n (inr (inr h)) = rw h (refl, refl)

-- the sign, and the point, that a text begins with
abbrev sign_of : List ℕ → List ℕ
sign_of t = cond (begins 43 t || begins 45 t) (take 1 t) []

abbrev point_of : List ℕ → List ℕ
point_of t = cond (begins 46 t) (take 1 t) []

sign_is : (t : List ℕ) → (t ≡ sign_of t ++ behind_sign t) × (IsSign (sign_of t))
sign_is [] = (refl, inl refl)
sign_is (b ∷ s) = go (eqb b 43) refl (eqb b 45) refl
  where
    go : (c : Bool) → eqb b 43 ≡ c → (d : Bool) → eqb b 45 ≡ d
        → ((b ∷ s) ≡ cond (c || d) (b ∷ []) [] ++ cond (c || d) s (b ∷ s)) × IsSign (cond (c || d) (b ∷ []) [])
    go true q d r = (refl, inr (inl (ap (λ (k : ℕ). k ∷ []) (eqb-true b 43 q))))
    go false q true r = (refl, inr (inr (ap (λ (k : ℕ). k ∷ []) (eqb-true b 45 r))))
    go false q false r = (refl, inl refl)

-- ---- exponents

module _ {e : List ℕ} (x : Exponent e) where
  behind_mark : drop 1 e ≡ x.sign ++ x.size
  behind_mark = ap (drop 1) x.together ∙ go x.mark x.a_mark
    where
      go : (m : List ℕ) → (m ≡ text "e") ⊎ (m ≡ text "E") → drop 1 (m ++ (x.sign ++ x.size)) ≡ x.sign ++ x.size
      go m (inl h) = rw h
      go m (inr h) = rw h

  size_cut : (behind_sign (drop 1 e) ≡ x.size) × (is_minus (drop 1 e) ≡ same x.sign (text "-"))
  size_cut = let c = sign_cut x.sign x.size (digits_unsigned x.size x.digits) x.a_sign in (ap behind_sign behind_mark ∙ c.0, ap is_minus behind_mark ∙ c.1)

  has_mark : (begins (code "e") e || begins (code "E") e) ≡ true
  has_mark = ap (λ (l : List ℕ). begins (code "e") l || begins (code "E") l) x.together ∙ go x.mark x.a_mark
    where
      go : (m : List ℕ) → (m ≡ text "e") ⊎ (m ≡ text "E") → (begins (code "e") (m ++ (x.sign ++ x.size)) || begins (code "E") (m ++ (x.sign ++ x.size))) ≡ true
      go m (inl h) = rw h
      go m (inr h) = rw h

  exponent_ok_lem : exponent_ok e ≡ true
  unfolding exponent_ok
  exponent_ok_lem =
      ap (λ (b : Bool). eqb (length e) 0 || b)
      (rw (has_mark, size_cut.0, le-leb 1 (length x.size) x.one, le-leb (length x.size) 3 x.to_three) x.digits)
      ∙ or_true (eqb (length e) 0)
    where
      or_true : (b : Bool) → (b || true) ≡ true
      or_true true = refl
      or_true false = refl

every_exponent : (e : List ℕ) (x : Exponent e) → Moves e x
every_exponent e x =
    record {
      right = ap₂ (λ (m : Bool) (d : List ℕ). cond m 0 (value_from 0 d)) (size_cut x).1 (size_cut x).0;
      left = ap₂ (λ (m : Bool) (d : List ℕ). cond m (value_from 0 d) 0) (size_cut x).1 (size_cut x).0;
    }

only_exponent : (e : List ℕ) → exponent_ok e ≡ true → (e ≡ []) ⊎ Exponent e
unfolding exponent_ok
only_exponent [] h = inl refl
only_exponent (b ∷ s) h =
    let some : eqb (length (b ∷ s)) 0 ≡ false = ne_eqb (length (b ∷ s)) 0 (λ z. omega arith) in
    let m = (and-eq-true_iff (eqb b 101 || eqb b 69) _).0 (or_second (eqb (length (b ∷ s)) 0) _ some h) in
    let l = (and-eq-true_iff (leb 1 (length (behind_sign s))) _).0 m.1 in
    let d = (and-eq-true_iff (leb (length (behind_sign s)) 3) _).0 l.1 in
    let g = sign_is s in
    inr (record {
      mark = b ∷ [];
      sign = sign_of s;
      size = behind_sign s;
      together = ap (λ (r : List ℕ). b ∷ r) g.0;
      a_mark = go (eqb b 101) refl m.0;
      a_sign = g.1;
      digits = d.1;
      one = leb-true 1 (length (behind_sign s)) l.0;
      to_three = leb-true (length (behind_sign s)) 3 d.0;
    })
  where
    go : (c : Bool) → eqb b 101 ≡ c → (c || eqb b 69) ≡ true → ((b ∷ []) ≡ text "e") ⊎ ((b ∷ []) ≡ text "E")
    go true q h = inl (ap (λ (k : ℕ). k ∷ []) (eqb-true b 101 q))
    go false q h = inr (ap (λ (k : ℕ). k ∷ []) (eqb-true b 69 h))

-- ---- texts that begin with no digit

-- a text without digits at its start, and without a point
record Ends (x : List ℕ) : Type 0 where
  none : run is_digit x ≡ []
  all_behind : behind_run is_digit x ≡ x
  no_point : begins 46 x ≡ false

ends_at : (b : ℕ) (e : List ℕ) → is_digit b ≡ false → eqb b 46 ≡ false → Ends (b ∷ e)
ends_at b e d p = record { none = rw d; all_behind = rw d; no_point = p }

marked : (b : ℕ) (e : List ℕ) → (eqb b 101 || eqb b 69) ≡ true → Ends (b ∷ e)
unfolding is_digit
marked b e h = go (eqb b 101) refl h
  where
    go : (c : Bool) → eqb b 101 ≡ c → (c || eqb b 69) ≡ true → Ends (b ∷ e)
    go true q h = rw (eqb-true b 101 q) (ends_at 101 e refl refl)
    go false q h = rw (eqb-true b 69 h) (ends_at 69 e refl refl)

exponent_ends : (x : List ℕ) → exponent_ok x ≡ true → Ends x
unfolding exponent_ok
exponent_ends [] h = record { none = refl; all_behind = refl; no_point = refl }
exponent_ends (b ∷ e) h =
    let some : eqb (length (b ∷ e)) 0 ≡ false = ne_eqb (length (b ∷ e)) 0 (λ z. omega arith) in
    marked b e ((and-eq-true_iff (eqb b 101 || eqb b 69) _).0 (or_second (eqb (length (b ∷ e)) 0) _ some h)).0

-- ---- what is put together is read as its parts

module _ {t : List ℕ} (s : Spelling t) where
  -- what stands behind the whole digits
  abbrev behind_whole_lem : List ℕ
  behind_whole_lem = s.point ++ (s.fraction ++ s.exponent)

  exponent_fits : exponent_ok s.exponent ≡ true
  unfolding exponent_ok
  exponent_fits = go s.exponent s.an_exponent
    where
      go : (e : List ℕ) → (e ≡ []) ⊎ Exponent e → exponent_ok e ≡ true
      go e (inl h) = rw h
      go e (inr x) = exponent_ok_lem x

  ends : Ends s.exponent
  ends = exponent_ends s.exponent exponent_fits

  -- no digit follows them, and behind a point the fraction does
  point_is : (run is_digit behind_whole_lem ≡ []) × ((behind_run is_digit behind_whole_lem ≡ behind_whole_lem) × (behind_point behind_whole_lem ≡ s.fraction ++ s.exponent))
  unfolding is_digit
  point_is = go s.point s.fraction s.a_point
    where
      go : (p f : List ℕ) → ((p ≡ []) × (f ≡ [])) ⊎ (p ≡ text ".")
          → (run is_digit (p ++ (f ++ s.exponent)) ≡ []) × ((behind_run is_digit (p ++ (f ++ s.exponent)) ≡ p ++ (f ++ s.exponent)) × (behind_point (p ++ (f ++ s.exponent)) ≡ f ++ s.exponent))
      go p f (inl h) = rw (h.0, h.1) (ends.none, (ends.all_behind, rw ends.no_point))
      go p f (inr h) = rw h (refl, (refl, refl))

  whole_run : run is_digit (s.whole ++ behind_whole_lem) ≡ s.whole
  whole_run = run-append is_digit s.whole behind_whole_lem s.before ∙ ap (λ (l : List ℕ). s.whole ++ l) point_is.0 ∙ append-nil s.whole

  after_is : behind_point (behind_run is_digit (s.whole ++ behind_whole_lem)) ≡ s.fraction ++ s.exponent
  after_is = ap behind_point (behind-append is_digit s.whole behind_whole_lem s.before ∙ point_is.1.0) ∙ point_is.1.1

  fraction_run : run is_digit (s.fraction ++ s.exponent) ≡ s.fraction
  fraction_run = run-append is_digit s.fraction s.exponent s.behind ∙ ap (λ (l : List ℕ). s.fraction ++ l) ends.none ∙ append-nil s.fraction

  exponent_left : behind_run is_digit (s.fraction ++ s.exponent) ≡ s.exponent
  exponent_left = behind-append is_digit s.fraction s.exponent s.behind ∙ ends.all_behind

  -- without a sign it begins with a digit or a point
  unsigned : (begins 43 (s.whole ++ behind_whole_lem) ≡ false) × (begins 45 (s.whole ++ behind_whole_lem) ≡ false)
  unsigned = go s.whole s.point s.fraction s.before s.a_digit s.a_point
    where
      go : (w p f : List ℕ) → all is_digit w ≡ true → 1 ≤ length (w ++ f) → ((p ≡ []) × (f ≡ [])) ⊎ (p ≡ text ".")
          → (begins 43 (w ++ (p ++ (f ++ s.exponent))) ≡ false) × (begins 45 (w ++ (p ++ (f ++ s.exponent))) ≡ false)
      go [] p f d l (inl h) = absurd (omega (arith, ap length h.1))
      go [] p f d l (inr h) = rw h (refl, refl)
      go (b ∷ w) p f d l h = let n = digits_unsigned (b ∷ w) d in (n.0, n.1)

  signed : (behind_sign (s.sign ++ (s.whole ++ behind_whole_lem)) ≡ s.whole ++ behind_whole_lem) × (is_minus (s.sign ++ (s.whole ++ behind_whole_lem)) ≡ same s.sign (text "-"))
  signed = sign_cut s.sign (s.whole ++ behind_whole_lem) unsigned s.a_sign

every_spelling : (t : List ℕ) (s : Spelling t) → ReadAs t s
unfolding is_scientific
every_spelling t s =
    let u = ap behind_sign s.together ∙ (signed s).0 in
    let h : whole_digits t ≡ s.whole = ap (run is_digit) u ∙ whole_run s in
    let a = ap (λ (l : List ℕ). behind_point (behind_run is_digit l)) u ∙ after_is s in
    let k : fraction_digits t ≡ s.fraction = ap (run is_digit) a ∙ fraction_run s in
    let e : exponent t ≡ s.exponent = ap (behind_run is_digit) a ∙ exponent_left s in
    record {
      form = rw (h, k, e, le-leb 1 (length (s.whole ++ s.fraction)) s.a_digit) (exponent_fits s);
      minus = ap is_minus s.together ∙ (signed s).1;
      whole = h;
      fraction = k;
      exponent = e;
    }

-- ---- and nothing else has the form

run_both : (s : List ℕ) → s ≡ run is_digit s ++ behind_run is_digit s
run_both s = sym (take-append-drop (length (run is_digit s)) s) ∙ ap₂ ◌++◌ (run_take is_digit s) (run_drop is_digit s)

-- behind a run none begins
run_none : (s : List ℕ) → run is_digit (behind_run is_digit s) ≡ []
run_none [] = refl
run_none (b ∷ s) = go (is_digit b) refl (run_none s)
  where
    go : (c : Bool) → is_digit b ≡ c → run is_digit (behind_run is_digit s) ≡ [] → run is_digit (cond c (behind_run is_digit s) (b ∷ s)) ≡ []
    go true q h = h
    go false q h = rw q

point_cut : (r : List ℕ) → run is_digit r ≡ [] → (r ≡ point_of r ++ behind_point r) × (((point_of r ≡ []) × (run is_digit (behind_point r) ≡ [])) ⊎ (point_of r ≡ text "."))
point_cut [] h = (refl, inl (refl, refl))
point_cut (b ∷ s) h = go (eqb b 46) refl
  where
    go : (c : Bool) → eqb b 46 ≡ c
        → ((b ∷ s) ≡ cond c (b ∷ []) [] ++ cond c s (b ∷ s)) × (((cond c (b ∷ []) [] ≡ []) × (run is_digit (cond c s (b ∷ s)) ≡ [])) ⊎ (cond c (b ∷ []) [] ≡ text "."))
    go true q = (refl, inr (ap (λ (k : ℕ). k ∷ []) (eqb-true b 46 q)))
    go false q = (refl, inl (refl, h))

only_spelled : (t : List ℕ) → is_scientific t ≡ true → Spelling t
unfolding is_scientific
only_spelled t h =
    let k = (and-eq-true_iff (leb 1 (length (whole_digits t ++ fraction_digits t))) (exponent_ok (exponent t))).0 h in
    let g = sign_is t in
    let r = behind_run is_digit (behind_sign t) in
    let c = point_cut r (run_none (behind_sign t)) in
    record {
      sign = sign_of t;
      whole = whole_digits t;
      point = point_of r;
      fraction = fraction_digits t;
      exponent = exponent t;
      together = g.0 ∙ ap (λ (l : List ℕ). sign_of t ++ l) (run_both (behind_sign t)
          ∙ ap (λ (l : List ℕ). whole_digits t ++ l) (c.0 ∙ ap (λ (l : List ℕ). point_of r ++ l) (run_both (after_point t))));
      a_sign = g.1;
      before = run_all is_digit (behind_sign t);
      a_point = c.1;
      behind = run_all is_digit (after_point t);
      a_digit = leb-true 1 (length (whole_digits t ++ fraction_digits t)) k.0;
      an_exponent = only_exponent (exponent t) k.1;
    }

pub form : Form
form = record { every = every_spelling; only = only_spelled; moves = every_exponent }
