-- Texts that are apart by one pass over the pairs of places are distinct.
use Prim.Native.Nat.{ℕ, ◌+◌, ◌*◌, ◌/◌, ◌%◌, ◌<◌, ◌≤◌}
use native.Mathlib.Omega.{arith}
use mathlib.Core.Path.{◌≡◌, refl, sym, ap, ◌∙◌}
use mathlib.Core.Bool.{Bool, true, false, not, ◌||◌}
use mathlib.Core.List.{List, [], ◌∷◌}
use lib.Arith.{digits_lt, digits_div, digits_mod}
use lib.Dec.{eqb, leb}
use lib.ListN.{length, take, drop, replicate, length-drop, take-append-drop}
use lib.Seq.{length-take-le}
use borrow.Author.Tests.{eqb-true, eq-eqb, leb-false, lt-leb}
use Rattle.output.specs.Text.{same, all}
use Rattle.output.proofs.TextLaws.{same_refl, same_true}
use Rattle.machine.specs.Places.{all_below}
use Rattle.machine.specs.Sheet.{zero_byte, distinct}
use Rattle.machine.proofs.TestLaws.{and_true, and_in, test_same}
use Rattle.machine.proofs.PlacesLaws.{below_at, below_of, below_same}
use Rattle.rules.specs.Apart.{alike, apart_at}

-- places i < j < count, as pairs of a square
module _ (width count : ℕ) (like : ℕ → ℕ → Bool) where
  abbrev row : ℕ → Bool
  row j = all_below (λ i. not (like i j)) j

  pub apart_pairs : count ≤ width → all_below (apart_at width count like) (width * width) ≡ all_below row count
  unfolding apart_at
  apart_pairs w = test_same (all_below (apart_at width count like) (width * width)) (all_below row count) there back
    where
      there : all_below (apart_at width count like) (width * width) ≡ true → all_below row count ≡ true
      there h = below_of row count (λ j k. below_of (λ i. not (like i j)) j (λ i l. at_pair i j k l))
        where
          at_pair : (i j : ℕ) → j < count → i < j → not (like i j) ≡ true
          at_pair i j k l =
              let m : i < width = omega arith in
              rw (digits_div j m, digits_mod j m, lt-leb count j k, lt-leb j i l) at (below_at (apart_at width count like) (width * width) (j * width + i) h (digits_lt (omega arith) m))

      back : all_below row count ≡ true → all_below (apart_at width count like) (width * width) ≡ true
      back h = below_of (apart_at width count like) (width * width) (λ q l. go q (leb count (q / width)) (leb (q / width) (q % width)) refl refl)
        where
          go : (q : ℕ) (b c : Bool) → leb count (q / width) ≡ b → leb (q / width) (q % width) ≡ c → (b || (c || not (like (q % width) (q / width)))) ≡ true
          go q true c e d = refl
          go q false true e d = refl
          go q false false e d = below_at (λ i. not (like i (q / width))) (q / width) (q % width) (below_at row count (q / width) h (leb-false count (q / width) e)) (leb-false (q / width) (q % width) d)

-- a text in an array of a size, with zeros behind it
pub record Padded (size len : ℕ) (text : List ℕ) : Type 0 where
  pub sized : length text ≡ size
  pub short : len ≤ size
  pub rest_zero : all zero_byte (drop len text) ≡ true

-- arrays of zeros are equal where their lengths are
zeros : (s : List ℕ) → all zero_byte s ≡ true → s ≡ replicate (length s) 0
zeros [] h = refl
zeros (b ∷ s) h =
    let k = and_true (eqb b 0) (all zero_byte s) h in
    rw (eqb-true b 0 k.0) (ap (λ (t : List ℕ). 0 ∷ t) (zeros s k.1))

-- padded texts are alike where they are the same
alike_same : (size n m : ℕ) (a b : List ℕ) → Padded size n a → Padded size m b → alike n a m b ≡ same (take n a) (take m b)
alike_same size n m a b f g = test_same (alike n a m b) (same (take n a) (take m b)) there back
  where
    there : alike n a m b ≡ true → same (take n a) (take m b) ≡ true
    there h =
        let k = and_true (eqb n m) (same a b) h in
        rw (eqb-true n m k.0, same_true a b k.1) (same_refl (take m b))

    back : same (take n a) (take m b) ≡ true → alike n a m b ≡ true
    back h = and_in (eqb n m) (same a b) (eq-eqb n m lengths) (rw arrays (same_refl b))
      where
        texts : take n a ≡ take m b
        texts = same_true (take n a) (take m b) h

        lengths : n ≡ m
        lengths = sym (length-take-le n a (omega arith)) ∙ ap length texts ∙ length-take-le m b (omega arith)

        rests : drop n a ≡ drop m b
        rests = zeros (drop n a) f.rest_zero
            ∙ ap (λ (k : ℕ). replicate k 0) (length-drop n a ∙ omega (arith, lengths) ∙ sym (length-drop m b))
            ∙ sym (zeros (drop m b) g.rest_zero)

        arrays : a ≡ b
        arrays = sym (take-append-drop n a) ∙ rw (texts, rests) (take-append-drop m b)

-- one pass by whole arrays says that the texts are distinct
pub apart_distinct : (size width count : ℕ) (len : ℕ → ℕ) (text : ℕ → List ℕ) → count ≤ width → ((j : ℕ) → j < count → Padded size (len j) (text j))
    → all_below (apart_at width count (λ i j. alike (len i) (text i) (len j) (text j))) (width * width) ≡ distinct (λ j. take (len j) (text j)) count
unfolding distinct
apart_distinct size width count len text w padded =
    apart_pairs width count (λ i j. alike (len i) (text i) (len j) (text j)) w
    ∙ below_same (λ j. all_below (λ i. not (alike (len i) (text i) (len j) (text j))) j) (λ j. all_below (λ i. not (same (take (len i) (text i)) (take (len j) (text j)))) j) count
    (λ j k. below_same (λ i. not (alike (len i) (text i) (len j) (text j))) (λ i. not (same (take (len i) (text i)) (take (len j) (text j)))) j
    (λ i l. ap not (alike_same size (len i) (len j) (text i) (text j) (padded i (omega arith)) (padded j k))))
