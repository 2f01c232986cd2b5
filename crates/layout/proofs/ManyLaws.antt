-- So many of a kind, read one after another into a slice: the argument of the loop that reads options and sensors.
use Prim.Native.Nat.{ℕ, suc, ◌+◌, ◌-◌, ◌≤◌, ◌<◌}
use native.Mathlib.Omega.{arith}
use mathlib.Core.Path.{◌≡◌, refl, ap, sym, ◌∙◌}
use mathlib.Core.List.{List, [], ◌∷◌, ◌++◌, append-nil}
use lib.ListN.{length, set, take, drop, replicate, length-take, length-replicate}
use lib.Seq.{append_snoc, take_all}
use Rattle.std.proofs.lemmas.List.{take_more_set, drop-replicate}
use Rattle.machine.specs.Opening.{Taken, broken, taken, and_then, many_at}

module _ {A : Type 0} where
  then_all : (y : Taken (List A)) → y ≡ and_then y (λ xs q. taken xs q)
  then_all broken = refl
  then_all (taken xs q) = refl

  then_more : (p : List A) (x : A) (y : Taken (List A)) → and_then (and_then y (λ xs q. taken (x ∷ xs) q)) (λ ys q. taken (p ++ ys) q) ≡ and_then y (λ xs q. taken (p ++ (x ∷ []) ++ xs) q)
  then_more p x broken = refl
  then_more p x (taken xs q) = ap (λ (l : List A). taken l q) (sym (append_snoc p x xs))

-- k of n are read from s on, and `rest` is behind them; they stand at the start of the array
pub record Progress {A : Type 0} (one : List ℕ → Taken A) (n : ℕ) (s : List ℕ) (array : List A) (rest : List ℕ) (k : ℕ) : Type 0 where
  pub goes_on_lem : many_at one n s ≡ and_then (many_at one (n - k) rest) (λ xs q. taken (take k array ++ xs) q)

module _ {A : Type 0} {one : List ℕ → Taken A} {n : ℕ} {s : List ℕ} {array : List A} where
  pub begun : Progress one n s array s 0
  begun = let e : n - 0 ≡ n = omega arith in record { goes_on_lem = rw e (then_all (many_at one n s)) }

  module _ {rest : List ℕ} {k : ℕ} (f : Progress one n s array rest k) where
    module _ (h : k < n) where
      left : n - k ≡ suc (n - (k + 1))
      left = omega arith

      pub fault : broken ≡ one rest → many_at one n s ≡ broken
      unfolding many_at
      fault e = f.goes_on_lem ∙ rw (left, sym e)

      pub more : length array ≡ n → {x : A} {behind : List ℕ} → taken x behind ≡ one rest → Progress one n s (set array k x) behind (k + 1)
      unfolding many_at
      more u {x} {behind} e =
          let stored = take_more_set array k x (omega arith) in record {
            goes_on_lem = f.goes_on_lem ∙ rw (stored, left, sym e, then_more (take k array) x (many_at one (n - (k + 1)) behind));
          }

    pub all_read : n ≤ k → length array ≡ n → many_at one n s ≡ taken array rest
    unfolding many_at
    all_read h u =
        let e : n - k ≡ 0 = omega arith in
        f.goes_on_lem ∙ rw (e, append-nil, take_all k array (omega arith))

-- parts are read into the first places of an array of blank ones
module _ {A : Type 0} {size count : ℕ} (le : count ≤ size) (blank : A) where
  pub so_many : length (take count (replicate size blank)) ≡ count
  so_many = rw (length-take, length-replicate) (omega arith)

  pub filled : (parts : List A) → length parts ≡ length (take count (replicate size blank)) → parts ++ drop count (replicate size blank) ≡ parts ++ replicate (size - length parts) blank
  filled parts h = rw (h ∙ so_many, drop-replicate count size blank) refl
