-- The lines of a client among deliveries, one delivery after another.
use Prim.Native.Nat.{ℕ, zero, suc, ◌+◌, ◌*◌, ◌≤◌, ◌<◌, min}
use native.Mathlib.Omega.{arith}
use mathlib.Core.Path.{◌≡◌, refl}
use mathlib.Core.Bool.{Bool, true, false, cond}
use mathlib.Core.List.{List, [], ◌∷◌, ◌++◌}
use lib.Dec.{eqb}
use lib.ListN.{length, take, drop, get_or, length-drop}
use Rattle.message.specs.Delivery.{cut_in, cut}
use Rattle.texts.proofs.At.{up_to_end}
use Rattle.machine.specs.Places.{joined}
use Rattle.machine.specs.TwoDevices.{lines_to}
use Rattle.terminal.specs.Shown.{shown_to}

-- a bound on the packets that is no less than the bytes changes nothing
cut_bound : (k m : ℕ) (s : List ℕ) → length s ≤ k → length s ≤ m → cut_in k s ≡ cut_in m s
cut_bound zero zero s p q = refl
cut_bound zero (suc m) [] p q = refl
cut_bound zero (suc m) (b ∷ s) p q = absurd (omega arith)
cut_bound (suc k) zero [] p q = refl
cut_bound (suc k) zero (b ∷ s) p q = absurd (omega arith)
cut_bound (suc k) (suc m) [] p q = refl
cut_bound (suc k) (suc m) (b ∷ []) p q = refl
cut_bound (suc k) (suc m) (b ∷ h ∷ []) p q = refl
cut_bound (suc k) (suc m) (b ∷ h ∷ l ∷ s) p q =
    let n = length-drop (h * 256 + l) s in rw (cut_bound k m (drop (h * 256 + l) s) (omega arith) (omega arith))

-- a line is shown, or not
joined_if : (own : Bool) (l : List ℕ) (ls : List (List ℕ)) → joined (cond own (l ∷ ls) ls) ≡ cond own l [] ++ joined ls
joined_if true l ls = refl
joined_if false l ls = refl

-- the first delivery's line where it is the client's, and then those of the rest
shown-cons : (c b h l : ℕ) (s : List ℕ)
    → shown_to c (b ∷ h ∷ l ∷ s) ≡ cond (eqb b c) (take (h * 256 + l) s) [] ++ shown_to c (drop (h * 256 + l) s)
unfolding shown_to cut lines_to
shown-cons c b h l s =
    let n = length-drop (h * 256 + l) s in
    rw (cut_bound (suc (suc (length s))) (length (drop (h * 256 + l) s)) (drop (h * 256 + l) s) (omega arith) (omega arith))
    (joined_if (eqb b c) (take (h * 256 + l) s) (lines_to c (cut_in (length (drop (h * 256 + l) s)) (drop (h * 256 + l) s))))

-- three bytes stand before each line
pub shown_none : (c : ℕ) (s : List ℕ) → length s < 3 → shown_to c s ≡ []
unfolding shown_to cut lines_to
shown_none c [] h = refl
shown_none c (b ∷ []) h = refl
shown_none c (b ∷ d ∷ []) h = refl
shown_none c (b ∷ d ∷ e ∷ s) h = absurd (omega arith)

-- from one delivery to what follows its line, of n bytes
pub shown_more : (c : ℕ) (s : List ℕ) {n : ℕ} → 3 ≤ length s → n ≡ min (get_or s 1 0 * 256 + get_or s 2 0) (length (drop 3 s))
    → shown_to c s ≡ cond (eqb (get_or s 0 0) c) (take n (drop 3 s)) [] ++ shown_to c (drop n (drop 3 s))
shown_more c [] h e = absurd (omega arith)
shown_more c (b ∷ []) h e = absurd (omega arith)
shown_more c (b ∷ d ∷ []) h e = absurd (omega arith)
shown_more c (b ∷ d ∷ l ∷ s) h e = let parts = up_to_end (d * 256 + l) s in rw (shown-cons, e, parts.0, parts.1)
