-- A list that is written from its start on: the new elements, and then the old ones that are left; and a store at one place.
use Prim.Native.Nat.{ℕ, zero, suc, ◌+◌, ◌-◌, ◌<◌}
use native.Mathlib.Nat.{sub-zero, zero-sub, suc-sub-suc}
use native.Mathlib.Omega.{arith}
use native.Mathlib.Numerals.{add-one}
use mathlib.Core.Path.{◌≡◌, refl, sym, ◌∙◌, ap}
use mathlib.Core.Bool.{Bool, true, false, cond}
use mathlib.Core.List.{List, [], ◌∷◌, ◌++◌, append_assoc, append-nil}
use lib.Dec.{eqb}
use lib.ListN.{length, get_or, set, drop, replicate, length-set, drop_of_length-le}
use lib.Seq.{drop-cons, set_at, get_or-set_same, get_or-set_other, get_or-append_seam, ext_get_or}
use borrow.Author.Tests.{eqb-true, eqb-false}
use Rattle.machine.specs.Places.{tabulate}
use Rattle.machine.proofs.PlacesLaws.{length-tabulate, get_or-tabulate}

module _ {A : Type 0} (f : ℕ → A) where
  -- one more element written
  pub filled_one : (l : List A) (n : ℕ) → n < length l → set (tabulate f n ++ drop n l) n (f n) ≡ tabulate f (n + 1) ++ drop (n + 1) l
  unfolding tabulate
  filled_one l n h =
      rw (add-one, drop-cons l n (f n) h, set_at (tabulate f n) (get_or l n (f n)) (drop (suc n) l) (f n) n (length-tabulate f n))
      (sym (append_assoc (tabulate f n) (f n ∷ []) (drop (suc n) l)))

  -- the next element is as it was
  pub unwritten : (l : List A) (n : ℕ) (d : A) → n < length l → get_or (tabulate f n ++ drop n l) n d ≡ get_or l n d
  unwritten l n d h =
      rw (drop-cons l n d h)
      (ap (λ k. get_or (tabulate f n ++ (get_or l n d ∷ drop (suc n) l)) k d) (sym (length-tabulate f n)) ∙ get_or-append_seam (tabulate f n) (get_or l n d) (drop (suc n) l) d)

  -- all written
  pub filled_all : (l : List A) (n : ℕ) → length l ≡ n → tabulate f n ++ drop n l ≡ tabulate f n
  filled_all l n h = rw (drop_of_length-le l {i = n} (omega arith)) (append-nil (tabulate f n))

module _ {A : Type 0} where
  -- what stands at a place after a store
  abbrev stored_at : List A → ℕ → A → A → ℕ → A
  stored_at l i x d k = cond (eqb k i) x (get_or l k d)

  -- a store, by place
  pub set_by_place : (l : List A) (i : ℕ) (x d : A) → i < length l → set l i x ≡ tabulate (λ k. cond (eqb k i) x (get_or l k d)) (length l)
  set_by_place l i x d h =
      ext_get_or d (set l i x) (tabulate (stored_at l i x d) (length l)) (length-set l i x ∙ sym (length-tabulate (stored_at l i x d) (length l)))
      (λ k m. go k (eqb k i) refl ∙ sym (get_or-tabulate (stored_at l i x d) (length l) k d (omega (arith, length-set l i x))))
    where
      go : (k : ℕ) (b : Bool) → eqb k i ≡ b → get_or (set l i x) k d ≡ cond b x (get_or l k d)
      go k true e = rw (eqb-true k i e) (get_or-set_same l i x d h)
      go k false e = get_or-set_other l i k x d (eqb-false k i e)

-- what is left of an array of equal elements
pub drop-replicate : (k n x : ℕ) → drop k (replicate n x) ≡ replicate (n - k) x
drop-replicate zero n x = rw sub-zero
drop-replicate (suc k) zero x = rw zero-sub
drop-replicate (suc k) (suc n) x = rw suc-sub-suc (drop-replicate k n x)
