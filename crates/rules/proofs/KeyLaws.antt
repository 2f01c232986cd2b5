-- Texts whose keys stand once each are apart.
use Prim.Native.Nat.{ℕ, zero, suc, ◌+◌, ◌*◌, ◌<◌, ◌≤◌}
use native.Mathlib.Omega.{arith}
use mathlib.Core.Path.{◌≡◌, refl, sym, ap, ◌∙◌}
use native.Mathlib.Numerals.{add-one}
use mathlib.Core.Bool.{Bool, true, false, cond, not}
use mathlib.Core.List.{List}
use lib.Dec.{eqb, ltb}
use lib.ListN.{length, take, get_or, replicate, get_or-append}
use Rattle.std.specs.List.{list_all, count_by}
use Rattle.std.proofs.lemmas.List.Folds.{list_all_more}
use Rattle.std.proofs.lemmas.List.Sums.{count_by_more_yes, count_by_more_no}
use borrow.Author.Tests.{eqb-true, eq-eqb, ltb-true, ltb-false}
use Rattle.output.specs.Text.{same}
use Rattle.output.proofs.TextLaws.{same_true}
use Rattle.machine.specs.declared.Choice.{Choice}
use Rattle.machine.specs.declared.Sheet.{Sheet}
use Rattle.machine.specs.Places.{all_below, tabulate}
use Rattle.machine.specs.Sheet.{no_choice, sensor_of}
use Rattle.machine.proofs.TestLaws.{and_true, cond_true, cond_cases}
use Rattle.machine.proofs.PlacesLaws.{below_at, below_of, length-tabulate, get_or-tabulate}
use Rattle.rules.specs.Apart.{alike, apart_at, choices_apart, names_apart}
use Rattle.rules.specs.Keys.{choice_key, name_key, choice_keys, name_keys, how_many, keys_apart}
use Rattle.rules.proofs.ApartLaws.{apart_pairs}

module _ (f : ℕ → Bool) where
  -- no more than the places
  pub few : (n : ℕ) → how_many f n ≤ n
  unfolding how_many
  few zero = omega arith
  few (suc n) = cond_cases (λ k. k ≤ suc n) (f n) (how_many f n + 1) (how_many f n) (λ e. omega (arith, few n)) (λ e. omega (arith, few n))

  -- one place more does not lessen them
  more : (n : ℕ) → how_many f n ≤ how_many f (suc n)
  unfolding how_many
  more n = cond_cases (λ k. how_many f n ≤ k) (f n) (how_many f n + 1) (how_many f n) (λ e. omega arith) (λ e. omega arith)

  -- and counts where the test holds
  last : (n : ℕ) → f n ≡ true → how_many f n + 1 ≤ how_many f (suc n)
  unfolding how_many
  last n e = rw (cond_true (f n) (how_many f n + 1) (how_many f n) e) (omega arith)

  -- there is one where the test holds at a place
  one : (n i : ℕ) → i < n → f i ≡ true → 1 ≤ how_many f n
  one zero i l d = absurd (omega arith)
  one (suc n) i l d = go (ltb i n) refl (one n i)
    where
      go : (b : Bool) → ltb i n ≡ b → (i < n → f i ≡ true → 1 ≤ how_many f n) → 1 ≤ how_many f (suc n)
      go true q ih = let h = ih (ltb-true i n q) d in omega (arith, more n)
      go false q ih = let r : i ≡ n = omega (arith, ltb-false i n q) in omega (arith, last n (ap f (sym r) ∙ d))

  -- and two where it holds at two
  many_two : (n i j : ℕ) → i < j → j < n → f i ≡ true → f j ≡ true → 2 ≤ how_many f n
  many_two zero i j l m d e = absurd (omega arith)
  many_two (suc n) i j l m d e = go (ltb j n) refl (many_two n i j)
    where
      go : (b : Bool) → ltb j n ≡ b → (i < j → j < n → f i ≡ true → f j ≡ true → 2 ≤ how_many f n) → 2 ≤ how_many f (suc n)
      go true q ih = let h = ih l (ltb-true j n q) d e in omega (arith, more n)
      go false q ih =
          let r : j ≡ n = omega (arith, ltb-false j n q) in
          let h = one n i (omega arith) d in
          omega (arith, last n (ap f (sym r) ∙ e))

-- where each of the first `count` keys stands once and like places have equal keys, no two places below are alike
apart_by_keys : (width count : ℕ) (like : ℕ → ℕ → Bool) (keys : List ℕ) → count ≤ width
    → ((i j : ℕ) → i < j → j < count → like i j ≡ true → get_or keys i 0 ≡ get_or keys j 0)
    → keys_apart keys count ≡ true → all_below (apart_at width count like) (width * width) ≡ true
unfolding keys_apart
apart_by_keys width count like keys w same_keys once =
    apart_pairs width count like w ∙ below_of (λ j. all_below (λ i. not (like i j)) j) count (λ j k. below_of (λ i. not (like i j)) j (λ i l. differ i j l k (like i j) refl))
  where
    stands : ℕ → ℕ → Bool
    stands j i = eqb (get_or keys i 0) (get_or keys j 0)

    differ : (i j : ℕ) → i < j → j < count → (b : Bool) → like i j ≡ b → not b ≡ true
    differ i j l k false e = refl
    differ i j l k true e =
        let only = eqb-true (how_many (stands j) count) 1 (below_at (λ j. eqb (how_many (stands j) count) 1) count j once k) in
        let two = many_two (stands j) count i j l k (eq-eqb (get_or keys i 0) (get_or keys j 0) (same_keys i j l k e)) (eq-eqb (get_or keys j 0) (get_or keys j 0) refl) in
        absurd (omega arith)

-- so for texts in their arrays, by a key of each
texts_by_keys : (width count : ℕ) (len : ℕ → ℕ) (text : ℕ → List ℕ) (key : List ℕ → ℕ) (keys : List ℕ) → count ≤ width
    → ((j : ℕ) → j < count → get_or keys j 0 ≡ key (text j)) → keys_apart keys count ≡ true
    → all_below (apart_at width count (λ i j. alike (len i) (text i) (len j) (text j))) (width * width) ≡ true
texts_by_keys width count len text key keys w key-at once =
    apart_by_keys width count (λ i j. alike (len i) (text i) (len j) (text j)) keys w
    (λ i j l k e. key-at i (omega arith) ∙ ap key (same_true (text i) (text j) (and_true (eqb (len i) (len j)) (same (text i) (text j)) e).1) ∙ sym (key-at j k))
    once

-- the key of an option
abbrev pub option_key : List Choice → ℕ → ℕ
option_key os k = choice_key (get_or os k no_choice).text

-- options whose keys stand once each are apart
pub choices_by_keys : (count : ℕ) (os : List Choice) → count ≤ 8 → keys_apart (choice_keys os) count ≡ true → choices_apart count os ≡ true
unfolding choices_apart choice_keys
choices_by_keys count os w once =
    texts_by_keys 8 count (λ k. (get_or os k no_choice).len) (λ k. (get_or os k no_choice).text) choice_key (choice_keys os) w
    (λ k l. get_or-append (tabulate (option_key os) 8) (replicate 24 0) 0 k (omega (arith, length-tabulate (option_key os) 8)) ∙ get_or-tabulate (option_key os) 8 k 0 (omega arith))
    once

-- names whose keys stand once each are apart
pub names_by_keys : (sheet : Sheet) → sheet.count ≤ 32 → keys_apart (name_keys sheet) sheet.count ≡ true → names_apart sheet ≡ true
unfolding names_apart name_keys
names_by_keys sheet w once =
    texts_by_keys 32 sheet.count (λ j. (sensor_of sheet j).name_len) (λ j. (sensor_of sheet j).name) name_key (name_keys sheet) w
    (λ j l. get_or-tabulate (λ j. name_key (sensor_of sheet j).name) 32 j 0 (omega arith))
    once

-- how often a key stands among the first n
how_many_count : (keys : List ℕ) (own n : ℕ) → n ≤ length keys → how_many (λ i. eqb (get_or keys i 0) own) n ≡ count_by (λ k. eqb k own) (take n keys)
unfolding how_many
how_many_count keys own zero l = refl
how_many_count keys own (suc n) l = go (eqb (get_or keys n 0) own) refl (how_many_count keys own n (omega arith))
  where
    go : (b : Bool) → eqb (get_or keys n 0) own ≡ b → how_many (λ i. eqb (get_or keys i 0) own) n ≡ count_by (λ k. eqb k own) (take n keys)
        → cond b (how_many (λ i. eqb (get_or keys i 0) own) n + 1) (how_many (λ i. eqb (get_or keys i 0) own) n) ≡ count_by (λ k. eqb k own) (take (suc n) keys)
    go true e h = rw (h, sym (add-one n)) (sym (count_by_more_yes (λ k. eqb k own) keys n 0 (omega arith) e))
    go false e h = rw (h, sym (add-one n)) (sym (count_by_more_no (λ k. eqb k own) keys n 0 (omega arith) e))

-- each of the first n keys stands among them once
pub once_each : (keys : List ℕ) (n : ℕ) (r : Bool) → n ≤ length keys
    → r ≡ list_all (λ own. eqb (count_by (λ k. eqb k own) (take n keys)) 1) (take n keys) → r ≡ keys_apart keys n
unfolding keys_apart all_below
once_each keys n r l h = h ∙ sym (go n l (omega arith))
  where
    once : ℕ → Bool
    once own = eqb (count_by (λ k. eqb k own) (take n keys)) 1

    go : (m : ℕ) → n ≤ length keys → m ≤ n → all_below (λ j. eqb (how_many (λ i. eqb (get_or keys i 0) (get_or keys j 0)) n) 1) m ≡ list_all once (take m keys)
    go zero l k = refl
    go (suc m) l k =
        rw (sym (add-one m), list_all_more once keys m 0 (omega arith), go m l (omega arith), how_many_count keys (get_or keys m 0) n l)
