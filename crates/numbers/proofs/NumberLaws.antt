-- A number that is read from a text, written again and compared.
use Prim.Native.Nat.{ℕ, suc, ◌+◌, ◌-◌, ◌*◌, ◌/◌, ◌%◌, ◌^◌, ◌≤◌, ◌<◌, min}
use native.Mathlib.Nat.{min-eq_left, le-div_iff_mul-le, div-lt_iff_lt-mul, mul-le-mul_left, one-le-pow, pow-le-pow_right}
use native.Mathlib.Omega.{arith}
use mathlib.Core.Path.{◌≡◌, refl, sym, ap, ◌∙◌}
use mathlib.Core.Bool.{Bool, true, false, cond, ◌&&◌, and-true, and-eq-true_iff}
use mathlib.Core.List.{List, [], ◌∷◌, ◌++◌, append-nil}
use Rattle.std.specs.Prelude.{Option, Some, None}
use Rattle.std.specs.Bool.{then_some}
use Rattle.std.proofs.lemmas.Option.{cond_some}
use borrow.Author.Tests.{lt-ltb, eq-eqb, ne_eqb, ltb-true, leb-true, eqb-true}
use lib.Dec.{leb, ltb, eqb}
use lib.ListN.{length, take, drop, get_or}
use lib.Pointwise.{pointwise, bytes_decides}
use lib.Seq.{take-append_seam}
use Rattle.output.specs.declared.Notation.{Notation}
use Rattle.output.specs.declared.Notation.TheVariants.{Decimal, Time, Integer, Float, Difference, WholeDifference}
use Rattle.output.specs.Text.{same}
use Rattle.output.specs.Number.{decimal, time, fixed, integer, float, difference, whole_difference, number_text}
use Rattle.output.specs.Output.{output, Wrote}
use Rattle.output.specs.Read as reads
use Rattle.output.specs.Read.{value_from, other, up_to, past, parts, from_bias, Exactly}
use Rattle.output.proofs.OutputLaws.{from_start}
use Rattle.output.proofs.RunLaws.{run-append, behind-append}
use Rattle.output.proofs.LengthLaws as lengths
use Rattle.output.proofs.ReadLaws.{value_decimal, past_at, no_point, parts_fixed, parts_time, from_bias_lem}
use Rattle.output.proofs.ReadBack as back
use Rattle.texts.proofs.At.{to_end}
use Rattle.texts.proofs.BeforeLaws.{before_is}
use Rattle.numbers.specs.Number.{held_parts, held_signed, held_number}

-- what was written at the start of a buffer with room for it
pub written : {xs ys : List ℕ} {r : ℕ} {bs : List ℕ} → Wrote (output xs 0) bs (output ys r) → length bs ≤ length xs → take r ys ≡ bs
written {xs} {ys} {r} {bs} w h =
    let e = from_start w h in
    rw (e.1, e.0) (take-append_seam bs (drop (length bs) xs))

-- a text that is written for a number in range is short, is read as that number, and tried as that number
pub record Readable (read : List ℕ → Option ℕ) (write : ℕ → List ℕ) (in_range : ℕ → Bool) (tried : List ℕ → ℕ) : Type 0 where
  pub exact : Exactly read write in_range
  pub short : (x : ℕ) → in_range x ≡ true → length (write x) ≤ 20
  pub again : (x : ℕ) → in_range x ≡ true → tried (write x) ≡ x

-- t is read as the number m that it is tried as where s, the text of m, is t
module _ {read : List ℕ → Option ℕ} {write : ℕ → List ℕ} {in_range : ℕ → Bool} {tried : List ℕ → ℕ} (l : Readable read write in_range tried) where
  compared : (t s : List ℕ) (m : ℕ) → m ≡ tried t → (in_range m ≡ true → s ≡ write m) → then_some (in_range m && pointwise eqb s t) m ≡ read t
  compared t s m n w = go (read t) refl
    where
      not_same : read t ≡ None → (b : Bool) → in_range m && pointwise eqb s t ≡ b → then_some b m ≡ None
      not_same e true p =
          let k = (and-eq-true_iff (in_range m) (pointwise eqb s t)).0 p in
          let q : t ≡ write m = sym ((bytes_decides s t).0 k.1) ∙ w k.0 in
          let r : read t ≡ Some m = ap read q ∙ l.exact.back m k.0 in
          let z : ◌≡◌ {A = ℕ} 0 1 = cc in
          absurd (omega arith)
      not_same e false p = refl

      go : (o : Option ℕ) → read t ≡ o → then_some (in_range m && pointwise eqb s t) m ≡ o
      go None e = not_same e (in_range m && pointwise eqb s t) refl
      go (Some x) e =
          let k = l.exact.only t x e in
          let y : m ≡ x = n ∙ ap tried (sym k.1) ∙ l.again x k.0 in
          let r : in_range m ≡ true = ap in_range y ∙ k.0 in
          let q : s ≡ t = w r ∙ ap write y ∙ k.1 in
          rw (r, q, (bytes_decides t t).1 refl, y)

  pub read_again : {t xs ys s : List ℕ} {m p : ℕ} → m ≡ tried t → Wrote (output xs 0) (write m) (output ys p) → 20 ≤ length xs → s ≡ take p ys
      → then_some (in_range m && pointwise eqb s t) m ≡ read t
  read_again {t} {xs} {ys} {s} {m} {p} n w room start =
      compared t s m n (λ k. let f = l.short m k in start ∙ written w (omega arith))

-- ---- digits alone

decimal_again : (n : ℕ) → n < 2 ^ 64 → min (value_from 0 (decimal n)) (2 ^ 64 - 1) ≡ n
decimal_again n h = let v = value_decimal n h in omega arith

pub decimals : Readable reads.read_decimal decimal reads.in_decimal (λ t. min (value_from 0 t) (2 ^ 64 - 1))
decimals = record {
  exact = back.decimals;
  short = λ n r. let h = ltb-true n (2 ^ 64) r in lengths.length-decimal 19 n (omega arith) (omega arith);
  again = λ n r. decimal_again n (ltb-true n (2 ^ 64) r);
}

-- a boolean is a decimal
decimal_too : (b w s : Bool) (x : ℕ) → (b ≡ true → w ≡ true) → cond (w && s) (Some x) None ≡ None → cond (b && s) (Some x) None ≡ None
decimal_too false w s x i h = refl
decimal_too true w s x i h = rw (i refl) at h

pub no_boolean : (t : List ℕ) → reads.read_decimal t ≡ None → reads.read_boolean t ≡ None
unfolding reads.read_decimal reads.read_boolean
no_boolean t h =
    let x = value_from 0 t in
    decimal_too (leb x 1) (ltb x (2 ^ 64)) (same (decimal x) t) x (λ e. let l = leb-true x 1 e in lt-ltb x (2 ^ 64) (omega arith)) h

tested : (b : Bool) (n : ℕ) → cond b (Some n) None ≡ then_some b n
tested true n = refl
tested false n = refl

pub boolean : (t : List ℕ) (n : ℕ) → reads.read_decimal t ≡ Some n → reads.read_boolean t ≡ then_some (leb n 1) n
unfolding reads.read_decimal reads.read_boolean
boolean t n h =
    let x = value_from 0 t in
    let k = cond_some (ltb x (2 ^ 64) && same (decimal x) t) x n h in
    rw ((and-eq-true_iff (ltb x (2 ^ 64)) (same (decimal x) t)).0 k.0).1 (rw (k.1, and-true) (tested (leb n 1) n))

whole_in : (d : ℕ) → reads.in_whole_difference d ≡ true → (d ≤ 4294967295000000) × (d % 1000000 ≡ 0)
whole_in d r =
    let p = (and-eq-true_iff (leb d 4294967295000000) (eqb (d % 1000000) 0)).0 r in
    (leb-true d 4294967295000000 p.0, eqb-true (d % 1000000) 0 p.1)

pub whole_differences : Readable reads.read_whole_difference whole_difference reads.in_whole_difference (λ t. min (value_from 0 t) (2 ^ 32) * 1000000)
unfolding whole_difference
whole_differences = record {
  exact = back.whole_differences;
  short = λ d r. let h = whole_in d r in let k = lengths.length-whole_difference d h.0 in omega arith;
  again = λ d r. let h = whole_in d r in let v = value_decimal (d / 1000000) (omega arith) in omega arith;
}

-- whole millions
-- ---- digits with a point

-- the digits on both sides of the point, capped so that their parts fit
pub capped_fits : (base x : ℕ) {v : ℕ} → 0 < base → v ≡ min x ((2 ^ 64 - 1) / base) → v * base < 2 ^ 64
capped_fits base x {v} b e =
    let l : v ≤ (2 ^ 64 - 1) / base = omega arith in
    let h : v * base ≤ 2 ^ 64 - 1 = (le-div_iff_mul-le b).0 l in
    omega arith

pub parts_held : (base : ℕ) (t : List ℕ) {whole fraction : List ℕ} {n v r : ℕ} → n ≡ length (up_to 46 t) → whole ≡ take n t → fraction ≡ past 46 t
    → v ≡ min (value_from 0 (whole ++ fraction)) ((2 ^ 64 - 1) / base) → r ≡ v * base / 10 ^ length fraction → r ≡ held_parts base t
unfolding held_parts
parts_held base t {whole} {fraction} {n} {v} {r} before part behind all h =
    let e : whole ≡ up_to 46 t = part ∙ before_is 46 t n before in
    h ∙ rw (all, e, behind)

-- what 64 bits hold is what is counted, where that fits
held : (base : ℕ) (t : List ℕ) → 0 < base → value_from 0 (up_to 46 t ++ past 46 t) * base < 2 ^ 64 → held_parts base t ≡ parts base t
unfolding held_parts
held base t b h =
    let l : value_from 0 (up_to 46 t ++ past 46 t) ≤ (2 ^ 64 - 1) / base = (le-div_iff_mul-le b).1 (omega arith) in
    rw (min-eq_left l)

-- x parts, with k places
held_again : (base k x : ℕ) (t : List ℕ) → 0 < base → parts base t ≡ x → length (past 46 t) ≤ k → suc x * 10 ^ k ≤ 2 ^ 64 → held_parts base t ≡ x
held_again base k x t b e f h =
    let l : value_from 0 (up_to 46 t ++ past 46 t) * base < suc x * 10 ^ length (past 46 t) = (div-lt_iff_lt-mul (one-le-pow (length (past 46 t)) 10 (omega arith))).0 (omega arith) in
    let g : suc x * 10 ^ length (past 46 t) ≤ suc x * 10 ^ k = mul-le-mul_left (suc x) (pow-le-pow_right (omega arith) f) in
    held base t b (omega arith) ∙ e

fixed_again : (base k q x : ℕ) → 0 < base → q * base ≡ 10 ^ k → suc x * 10 ^ k ≤ 2 ^ 64 → x < 2 ^ 64 → held_parts base (fixed base k x) ≡ x
unfolding fixed
fixed_again base k q x b e h l =
    held_again base k x (fixed base k x) b (parts_fixed base k q x b e l)
    (rw (past_at 46 (decimal (x / base)) _ (no_point (x / base))) (lengths.length-fraction base k (x % base))) h

pub times : Readable reads.read_time time reads.in_time (held_parts 1000)
unfolding time
times = record {
  exact = back.times;
  short = λ ms r. let k = lengths.length-time ms (leb-true ms 9999999999999 r) in omega arith;
  again = λ ms r. let h = leb-true ms 9999999999999 r in held_again 1000 3 ms (time ms) (omega arith) (parts_time ms (omega arith)) (rw (past_at 46 (decimal (ms / 1000)) _ (no_point (ms / 1000))) (omega arith)) (omega arith);
}

pub differences : Readable reads.read_difference difference reads.in_difference (held_parts 1000000)
unfolding difference
differences = record {
  exact = back.differences;
  short = λ d r. let k = lengths.length-difference d (leb-true d 2097152000000 r) in omega arith;
  again = λ d r. let h = leb-true d 2097152000000 r in fixed_again 1000000 6 1 d (omega arith) refl (omega arith) (omega arith);
}

-- ---- a minus

-- a decimal has no point
plain_again : (n : ℕ) → n ≤ 2 ^ 31 → held_parts 1 (decimal n) ≡ n
plain_again n h =
    let b : past 46 (decimal n) ≡ [] = ap (drop 1) (rw (append-nil (decimal n)) at (behind-append (other 46) (decimal n) [] (no_point n))) in
    let a : up_to 46 (decimal n) ≡ decimal n = rw (append-nil (decimal n)) at (run-append (other 46) (decimal n) [] (no_point n)) in
    let v = value_decimal n (omega arith) in
    held_again 1 0 n (decimal n) (omega arith) (rw (a, b, append-nil (decimal n), v) (omega arith)) (rw b (omega arith)) (omega arith)

pub integers : Readable reads.read_integer integer reads.in_integer (held_signed (2 ^ 31) 1)
unfolding integer held_signed
integers = record {
  exact = back.integers;
  short = λ v r. let k = lengths.length-integer v (ltb-true v (2 ^ 32) r) in omega arith;
  again = λ v r. let h = ltb-true v (2 ^ 32) r in from_bias_lem (2 ^ 31) decimal (λ s. min (held_parts 1 s) (2 ^ 31)) v back.digit_first (λ n l. rw (plain_again n l) (min-eq_left l)) (omega arith);
}

pub floats : Readable reads.read_float float reads.in_float (held_signed (2 ^ 30) 1024)
unfolding float held_signed
floats = record {
  exact = back.floats;
  short = λ v r. let k = lengths.length_float v (leb-true v (2 ^ 31) r) in omega arith;
  again = λ v r. let h = leb-true v (2 ^ 31) r in from_bias_lem (2 ^ 30) (fixed 1024 10) (λ s. min (held_parts 1024 s) (2 ^ 30)) v (back.fixed_first 1024 10) (λ n l. rw (fixed_again 1024 10 9765625 n (omega arith) refl (omega arith) (omega arith)) (min-eq_left l)) (omega arith);
}

module _ (bias base : ℕ) (t : List ℕ) where
  pub signed_none : length t ≡ 0 → bias ≡ held_signed bias base t
  unfolding held_signed
  signed_none = go t
    where
      go : (s : List ℕ) → length s ≡ 0 → bias ≡ from_bias bias (λ u. min (held_parts base u) bias) s
      go [] h = refl
      go (b ∷ s) h = absurd (omega arith)

  pub signed_minus : {d e : ℕ} → (length t ≡ 0 → ⊥) → get_or t 0 0 ≡ 45 → d ≡ held_parts base (take (length t - 1) (drop 1 t)) → e ≡ min d bias → bias - e ≡ held_signed bias base t
  unfolding held_signed
  signed_minus {d} {e} h m p q = rw (q, p, to_end t 1) (go t h m)
    where
      go : (s : List ℕ) → (length s ≡ 0 → ⊥) → get_or s 0 0 ≡ 45 → bias - min (held_parts base (drop 1 s)) bias ≡ from_bias bias (λ u. min (held_parts base u) bias) s
      go [] h m = absurd (h refl)
      go (b ∷ s) h m = rw (eq-eqb b 45 m)

  pub signed_plus : {d e : ℕ} → (length t ≡ 0 → ⊥) → (get_or t 0 0 ≡ 45 → ⊥) → d ≡ held_parts base t → e ≡ min d bias → bias + e ≡ held_signed bias base t
  unfolding held_signed
  signed_plus {d} {e} h m p q = rw (q, p) (go t h m)
    where
      go : (s : List ℕ) → (length s ≡ 0 → ⊥) → (get_or s 0 0 ≡ 45 → ⊥) → bias + min (held_parts base s) bias ≡ from_bias bias (λ u. min (held_parts base u) bias) s
      go [] h m = absurd (h refl)
      go (b ∷ s) h m = rw (ne_eqb b 45 m)

-- ---- each notation

pub numbers : (k : Notation) → Readable (reads.read_number k) (number_text k) (reads.in_number k) (held_number k)
numbers Decimal = decimals
numbers Time = times
numbers Integer = integers
numbers Float = floats
numbers Difference = differences
numbers WholeDifference = whole_differences
