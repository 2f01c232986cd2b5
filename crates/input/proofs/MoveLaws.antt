-- Bytes of a buffer moved to its start, and which are kept.
use Prim.Native.Nat.{ℕ, zero, suc, ◌-◌, ◌≤◌, ◌<◌, min}
use native.Mathlib.Nat.{zero-add, eq-zero-or-pos}
use mathlib.Core.Path.{◌≡◌, refl, sym, ap, ◌∙◌}
use mathlib.Core.Logic.{⊎_elim}
use mathlib.Core.List.{List, [], ◌∷◌}
use mathlib.Core.Bool.{true, false}
use borrow.Author.Tests.{eq-eqb, ne_eqb}
use lib.Dec.{eqb}
use lib.ListN.{length, take, drop, length-take, length-drop}
use lib.Seq.{paste, length-take-le}
use Rattle.output.specs.Output.{laid}
use Rattle.texts.proofs.At.{up_to_end}
use Rattle.input.specs.declared.Window.{Window}
use Rattle.input.specs.Window.{pending, kept, first}

-- a text's own start laid on it
laid_own : (m : ℕ) (xs : List ℕ) → xs ≡ laid (take m xs) xs
laid_own zero xs = refl
laid_own (suc m) [] = refl
laid_own (suc m) (x ∷ xs) = ap (λ (l : List ℕ). x ∷ l) (laid_own m xs)

take_own : (m : ℕ) (xs : List ℕ) → take (length (take m xs)) xs ≡ take m xs
take_own m xs = rw length-take (up_to_end m xs).0

-- n bytes laid on another text
laid_paste : (buf s : List ℕ) (n : ℕ) → n ≤ length s → laid (take n s) buf ≡ paste buf 0 s n
laid_paste buf s n h = rw (length-take-le n s h, zero-add)

-- ---- what is kept

module _ (buf : List ℕ) (w : Window) (most n : ℕ) (count : n ≡ min (w.to - w.from) (length buf - w.from)) where
  pending-length : length (pending buf w) ≡ n
  pending-length = length-take (w.to - w.from) (drop w.from buf) ∙ rw (length-drop, count)

  pub kept_full : n ≡ length buf → (k : ℕ) → k ≡ min most n → (first k ≡ first (length (kept buf w most))) × (buf ≡ laid (kept buf w most) buf)
  unfolding kept
  kept_full h k e =
      let f : eqb (length (pending buf w)) (length buf) ≡ true = eq-eqb _ _ (pending-length ∙ h) in
      (rw (f, length-take, e, h), rw f (laid_own most buf))

  pub kept_pending : (n ≡ length buf → ⊥) → pending buf w ≡ kept buf w most
  unfolding kept
  kept_pending h =
      let f : eqb (length (pending buf w)) (length buf) ≡ false = ne_eqb _ _ (λ e. h (sym pending-length ∙ e)) in
      rw f

  kept_moved : (n ≡ length buf → ⊥) → (out : List ℕ) → out ≡ laid (take n (drop w.from buf)) buf → (first n ≡ first (length (kept buf w most))) × (out ≡ laid (kept buf w most) buf)
  kept_moved h out e =
      let p : take n (drop w.from buf) ≡ pending buf w = rw (← pending-length) (take_own (w.to - w.from) (drop w.from buf)) in
      let k = kept_pending h in
      (rw (← k, pending-length), rw (← k, ← p) e)

  -- the n bytes from `at` on are copied to the start, where `at` is the window's start if there are any
  pub kept_copied : (at : ℕ) → (0 < n → at ≡ w.from) → n ≤ length buf - at → (n ≡ length buf → ⊥) → (out : List ℕ) → out ≡ paste buf 0 (drop at buf) n → (first n ≡ first (length (kept buf w most))) × (out ≡ laid (kept buf w most) buf)
  kept_copied at here fits h out e = kept_moved h out (e ∙ sym (laid_paste buf (drop at buf) n (rw length-drop fits)) ∙ ap (λ (l : List ℕ). laid l buf) (⊎_elim
      (λ (z : n ≡ 0). rw z refl)
      (λ (z : 0 < n). ap (λ (k : ℕ). take n (drop k buf)) (here z))
      (eq-zero-or-pos n)))
