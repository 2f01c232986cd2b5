-- Runs: the bytes of one kind that a text starts with, and what stands behind them.
use Prim.Native.Nat.{ℕ, suc, ◌+◌, ◌≤◌, ◌<◌}
use native.Mathlib.Numerals.{add-one}
use native.Mathlib.Omega.{arith}
use mathlib.Core.Path.{◌≡◌, refl, ap, ◌∙◌}
use mathlib.Core.Bool.{Bool, true, false, cond, ◌&&◌, and-eq-true_iff}
use mathlib.Core.List.{List, [], ◌∷◌, ◌++◌}
use lib.Dec.{eqb, eqb-suc-suc, eqb-zero-suc}
use lib.ListN.{length, take, drop, get_or, drop_of_length-le}
use lib.Seq.{drop-cons}
use Rattle.output.specs.Text.{all, run, behind_run}

module _ (is : ℕ → Bool) where
  pub run_le : (s : List ℕ) → length (run is s) ≤ length s
  run_le [] = omega arith
  run_le (b ∷ s) = go (is b) (run_le s)
    where
      go : (t : Bool) → length (run is s) ≤ length s → length (cond t (b ∷ run is s) []) ≤ suc (length s)
      go true h = omega arith
      go false h = omega arith

  pub run_all : (s : List ℕ) → all is (run is s) ≡ true
  run_all [] = refl
  run_all (b ∷ s) = go (is b) refl (run_all s)
    where
      go : (t : Bool) → is b ≡ t → all is (run is s) ≡ true → all is (cond t (b ∷ run is s) []) ≡ true
      go true e h = rw e h
      go false e h = refl

  pub run_take : (s : List ℕ) → take (length (run is s)) s ≡ run is s
  run_take [] = refl
  run_take (b ∷ s) = go (is b) (run_take s)
    where
      go : (t : Bool) → take (length (run is s)) s ≡ run is s → take (length (cond t (b ∷ run is s) [])) (b ∷ s) ≡ cond t (b ∷ run is s) []
      go true h = ap (λ (x : List ℕ). b ∷ x) h
      go false h = refl

  pub run_drop : (s : List ℕ) → drop (length (run is s)) s ≡ behind_run is s
  run_drop [] = refl
  run_drop (b ∷ s) = go (is b) (run_drop s)
    where
      go : (t : Bool) → drop (length (run is s)) s ≡ behind_run is s → drop (length (cond t (b ∷ run is s) [])) (b ∷ s) ≡ cond t (behind_run is s) (b ∷ s)
      go true h = h
      go false h = refl

  -- a run as long as its text is all of it
  pub run_whole : (s : List ℕ) → eqb (length (run is s)) (length s) ≡ all is s
  run_whole [] = refl
  run_whole (b ∷ s) = go (is b) (run_whole s)
    where
      go : (t : Bool) → eqb (length (run is s)) (length s) ≡ all is s → eqb (length (cond t (b ∷ run is s) [])) (suc (length s)) ≡ (t && all is s)
      go true h = eqb-suc-suc (length (run is s)) (length s) ∙ h
      go false h = eqb-zero-suc (length s)

  pub all_append : (a b : List ℕ) → all is a ≡ true → all is b ≡ true → all is (a ++ b) ≡ true
  all_append [] b h k = k
  all_append (x ∷ a) b h k = let e = (and-eq-true_iff (is x) (all is a)).0 h in rw e.0 (all_append a b e.1 k)

  pub all_in : (of : ℕ → Bool) → ((b : ℕ) → is b ≡ true → of b ≡ true) → (s : List ℕ) → all is s ≡ true → all of s ≡ true
  all_in of f [] h = refl
  all_in of f (b ∷ s) h = let e = (and-eq-true_iff (is b) (all is s)).0 h in rw (f b e.0) (all_in of f s e.1)

  pub run-append : (a b : List ℕ) → all is a ≡ true → run is (a ++ b) ≡ a ++ run is b
  run-append [] b h = refl
  run-append (x ∷ a) b h = let k = (and-eq-true_iff (is x) (all is a)).0 h in rw (k.0, run-append a b k.1)

  pub behind-append : (a b : List ℕ) → all is a ≡ true → behind_run is (a ++ b) ≡ behind_run is b
  behind-append [] b h = refl
  behind-append (x ∷ a) b h = let k = (and-eq-true_iff (is x) (all is a)).0 h in rw k.0 (behind-append a b k.1)

  -- a run counted from place i on: how the count goes on at the byte there
  pub run_stops : (s : List ℕ) (i : ℕ) → i < length s → is (get_or s i 0) ≡ false → length (run is (drop i s)) ≡ 0
  run_stops s i h e = rw (drop-cons s i 0 h, e)

  pub run_goes : (s : List ℕ) (i : ℕ) → i < length s → is (get_or s i 0) ≡ true → length (run is (drop i s)) ≡ suc (length (run is (drop (i + 1) s)))
  run_goes s i h e = rw (add-one i, drop-cons s i 0 h, e)

  pub run_over : (s : List ℕ) (i : ℕ) → length s ≤ i → length (run is (drop i s)) ≡ 0
  run_over s i h = rw (drop_of_length-le s h)
