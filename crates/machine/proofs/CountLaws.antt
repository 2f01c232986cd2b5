-- Counting by place: numbers below n that are all different are at most n.
use Prim.Native.Nat.{ℕ, zero, suc, ◌+◌, ◌≤◌, ◌<◌}
use native.Mathlib.Omega.{arith}
use mathlib.Core.Path.{◌≡◌, refl, ap, sym, ◌∙◌}
use mathlib.Core.Bool.{Bool, true, false, cond, ◌||◌, true≢false}
use mathlib.Core.List.{List, [], ◌∷◌}
use lib.Dec.{eqb, ltb}
use lib.ListN.{length}
use borrow.Author.Tests.{ltb-true, ltb-false}
use Rattle.machine.specs.Places.{any, has, twice, Each}
use Rattle.machine.proofs.TestLaws.{or_false, or_in, eqb_refl}

-- how many places below n pass the test
abbrev count_below : (ℕ → Bool) → ℕ → ℕ
count_below f zero = 0
count_below f (suc n) = cond (f n) 1 0 + count_below f n

count_most : (f : ℕ → Bool) (n : ℕ) → count_below f n ≤ n
count_most f zero = omega arith
count_most f (suc n) = go (f n) (count_most f n)
  where
    go : (b : Bool) → count_below f n ≤ n → cond b 1 0 + count_below f n ≤ suc n
    go true h = omega arith
    go false h = omega arith

module _ (f g : ℕ → Bool) (wider : (i : ℕ) → f i ≡ true → g i ≡ true) where
  step_wider : (i : ℕ) → cond (f i) 1 0 ≤ cond (g i) 1 0
  step_wider i = go (f i) (g i) refl refl
    where
      go : (b c : Bool) → f i ≡ b → g i ≡ c → cond b 1 0 ≤ cond c 1 0
      go true true p q = omega arith
      go true false p q = absurd (true≢false (sym (wider i p) ∙ q))
      go false c p q = omega arith

  count_wider : (n : ℕ) → count_below f n ≤ count_below g n
  count_wider zero = omega arith
  count_wider (suc n) = omega (arith, step_wider n, count_wider n)

  -- a test that holds at one place more
  count_more : (j n : ℕ) → f j ≡ false → g j ≡ true → j < n → suc (count_below f n) ≤ count_below g n
  count_more j zero p q h = absurd (omega arith)
  count_more j (suc n) p q h = go (ltb j n) refl (count_more j n p q)
    where
      go : (b : Bool) → ltb j n ≡ b → (j < n → suc (count_below f n) ≤ count_below g n) → suc (cond (f n) 1 0 + count_below f n) ≤ cond (g n) 1 0 + count_below g n
      go true e ih = omega (arith, ih (ltb-true j n e), step_wider n)
      go false e ih = let r : n ≡ j = omega (arith, ltb-false j n e) in rw (ap f r ∙ p, ap g r ∙ q) (omega (arith, count_wider n))

count_has : (n : ℕ) (js : List ℕ) → Each (λ j. j < n) js → twice js ≡ false → length js ≤ count_below (λ i. has i js) n
unfolding twice has any
count_has n [] h t = omega arith
count_has n (j ∷ js) h t = let q = or_false (has j js) (twice js) t in
    omega (
      arith,
      count_has n js h.1 q.1,
      count_more (λ i. has i js) (λ i. eqb i j || has i js) (λ i e. or_in (eqb i j) (has i js) e) j n q.0 (rw (eqb_refl j)) h.0,
    )

-- numbers below n, none of them twice
pub few_distinct : (n : ℕ) (js : List ℕ) → Each (λ j. j < n) js → twice js ≡ false → length js ≤ n
few_distinct n js h t = omega (arith, count_has n js h t, count_most (λ i. has i js) n)
