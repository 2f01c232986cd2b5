-- Which samples a sensor can have: what `sample_of` answers fits the type, and so does the sample of a fresh sensor.
use Rattle.std.specs.Prelude.{Some, None, Option}
use Prim.Native.Nat.{ℕ, ◌^◌, ◌<◌, ◌≤◌}
use native.Mathlib.Omega.{arith}
use mathlib.Core.Path.{◌≡◌, refl}
use mathlib.Core.Bool.{Bool, true, false, cond}
use lib.Dec.{eqb, ltb}
use lib.IntN.{ℤ, pos, negsuc}
use lib.Ieee as ieee
use borrow.Author.Tests.{le-leb, lt-ltb, ltb-true, eq-eqb, eqb-true}
use Rattle.value.specs.declared.Reading.{Reading}
use Rattle.value.specs.declared.Reading.TheVariants.{Integer, Float, Boolean, Option as Choice, Timestamp, Failure, Unreachable, Inactive}
use Rattle.value.specs.declared.Sample.{Sample}
use Rattle.value.specs.Double.{of_double, exact1024}
use Rattle.value.specs.Integer.{biased_integer, is_signed32}
use Rattle.value.specs.Reading.{sample, valid, only_for, below, of_integer, of_fit, zero_of, invalid, fresh, sample_of, number_fits, sample_fits}
use Rattle.value.proofs.DoubleLaws.{exact_stands}

-- ---- what a sample was made of

-- a reading that is taken has the sensor's type
only_for_as : (t k : ℕ) (a : Option Sample) (x : Sample) → only_for t k a ≡ Some x → (t ≡ k) × (a ≡ Some x)
only_for_as t k a x h = go (eqb t k) refl h
  where
    go : (b : Bool) → eqb t k ≡ b → cond b a None ≡ Some x → (t ≡ k) × (a ≡ Some x)
    go true e g = (eqb-true _ _ e, g)
    go false e g = let z : ◌≡◌ {A = ℕ} 0 1 = cc in absurd (omega arith)

-- a number that is taken passes its test
test_as : (b : Bool) (n : ℕ) (x : Sample) → cond b (valid n) None ≡ Some x → (b ≡ true) × (x ≡ sample 1 n)
test_as true n x h = (refl, cc)
test_as false n x h = let z : ◌≡◌ {A = ℕ} 0 1 = cc in absurd (omega arith)

-- the number of a double that is taken
fit_as : (f : Option ℕ) (x : Sample) → of_fit f ≡ Some x → (n : ℕ) × ((f ≡ Some n) × (x ≡ sample 1 n))
fit_as (Some n) x h = (n, (refl, cc))
fit_as None x h = let z : ◌≡◌ {A = ℕ} 0 1 = cc in absurd (omega arith)

-- ---- the numbers

-- the stored number of a signed 32-bit integer
signed_lt : (z : ℤ) → is_signed32 z ≡ true → biased_integer z < 2 ^ 32
signed_lt (pos n) h = let l = ltb-true n (2 ^ 31) h in omega arith
signed_lt (negsuc n) h = omega arith

-- the stored number of a double
exact_le : (d : ieee.Float) (n : ℕ) → exact1024 d ≡ Some n → n ≤ 2 ^ 31
unfolding of_double
exact_le ieee.nan n h = let z : ◌≡◌ {A = ℕ} 0 1 = cc in absurd (omega arith)
exact_le (ieee.inf s) n h = let z : ◌≡◌ {A = ℕ} 0 1 = cc in absurd (omega arith)
exact_le (ieee.fin s m e) n h = (exact_stands s m e n h).1

-- ---- the samples

-- a valid sample of type k
number_fits_lem : (t k options n : ℕ) (x : Sample) → t ≡ k → x ≡ sample 1 n → number_fits k options n ≡ true → sample_fits t options x ≡ true
unfolding sample_fits
number_fits_lem t k options n x e f h = rw (f, e) h

-- a sample of another kind
other_fits : (t options k : ℕ) (x : Sample) → eqb k 1 ≡ false → k ≤ 4 → Some (invalid t k) ≡ Some x → sample_fits t options x ≡ true
unfolding sample_fits
other_fits t options k x e l h =
    let f : x ≡ invalid t k = cc in
    rw (f, e, le-leb k 4 l, eq-eqb (zero_of t) (zero_of t) refl)

-- what a reading becomes
pub sample_fits_lem : (t options : ℕ) (r : Reading) (x : Sample) → sample_of t options r ≡ Some x → sample_fits t options x ≡ true
unfolding sample_of number_fits
sample_fits_lem t options (Integer z) x h =
    let a = only_for_as t 1 (of_integer z) x h in
    let b = test_as (is_signed32 z) (biased_integer z) x a.1 in
    number_fits_lem t 1 options (biased_integer z) x a.0 b.1 (lt-ltb _ _ (signed_lt z b.0))
sample_fits_lem t options (Float d) x h =
    let a = only_for_as t 2 (of_fit (exact1024 d)) x h in
    let b = fit_as (exact1024 d) x a.1 in
    number_fits_lem t 2 options b.0 x a.0 b.1.1 (le-leb _ _ (exact_le d b.0 b.1.0))
sample_fits_lem t options (Boolean n) x h =
    let a = only_for_as t 3 (below 2 n) x h in
    let b = test_as (ltb n 2) n x a.1 in
    let l = ltb-true n 2 b.0 in
    number_fits_lem t 3 options n x a.0 b.1 (le-leb n 1 (omega arith))
sample_fits_lem t options (Choice n) x h =
    let a = only_for_as t 4 (below options n) x h in
    let b = test_as (ltb n options) n x a.1 in
    number_fits_lem t 4 options n x a.0 b.1 b.0
sample_fits_lem t options (Timestamp n) x h =
    let a = only_for_as t 5 (below 10000000000000 n) x h in
    let b = test_as (ltb n 10000000000000) n x a.1 in
    let l = ltb-true n 10000000000000 b.0 in
    number_fits_lem t 5 options n x a.0 b.1 (le-leb n 9999999999999 (omega arith))
sample_fits_lem t options Failure x h = other_fits t options 2 x refl (omega arith) h
sample_fits_lem t options Unreachable x h = other_fits t options 3 x refl (omega arith) h
sample_fits_lem t options Inactive x h = other_fits t options 4 x refl (omega arith) h

-- before the first reading
pub fresh_fits : (t options : ℕ) → sample_fits t options (fresh t) ≡ true
fresh_fits t options = other_fits t options 0 (fresh t) refl (omega arith) refl
