-- A list from a position on.
use Prim.Native.Nat.{ℕ, zero, suc, ◌+◌, ◌-◌, ◌<◌, min}
use mathlib.Core.Path.{◌≡◌, refl, ap, ◌∙◌}
use mathlib.Core.List.{List, [], ◌∷◌}
use native.Mathlib.Omega.{arith}
use native.Mathlib.Numerals.{add-one}
use native.Mathlib.Nat.{zero-min, min-zero, suc-min-suc}
use lib.ListN.{length, take, drop, get_or, length-drop}
use lib.Seq.{drop-cons, take_all}

pub at : (s : List ℕ) (i : ℕ) → i < length s → drop i s ≡ get_or s i 0 ∷ drop (i + 1) s
at s i h = rw (add-one, drop-cons s i 0)

pub at2 : (s : List ℕ) (i : ℕ) → i + 1 < length s → drop i s ≡ get_or s i 0 ∷ get_or s (i + 1) 0 ∷ drop (i + 2) s
at2 s i h =
    let e : i + 2 ≡ i + 1 + 1 = omega arith in
    at s i (omega arith) ∙ ap (λ (l : List ℕ). get_or s i 0 ∷ l) (rw e (at s (i + 1) h))

-- the code's `&s[a..]`
pub to_end : (s : List ℕ) (a : ℕ) → take (length s - a) (drop a s) ≡ drop a s
to_end s a = take_all (length s - a) (drop a s) (omega (arith, length-drop a s))

-- a count past the end of a list is as good as its length
pub up_to_end : (n : ℕ) (s : List ℕ) → (take (min n (length s)) s ≡ take n s) × (drop (min n (length s)) s ≡ drop n s)
up_to_end zero s = rw (zero-min (length s)) (refl, refl)
up_to_end (suc n) [] = rw (min-zero (suc n)) (refl, refl)
up_to_end (suc n) (b ∷ s) = let e = up_to_end n s in rw (suc-min-suc n (length s)) (ap (λ (l : List ℕ). b ∷ l) e.0, e.1)
