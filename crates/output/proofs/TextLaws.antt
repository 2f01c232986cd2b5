-- Laws of texts: texts that are the same, and what holds of every byte of a number's text.
use Prim.Native.Nat.{ℕ, zero, suc, ◌+◌, ◌-◌, ◌*◌, ◌/◌, ◌%◌, ◌^◌, ◌<◌, ◌≤◌}
use Prim.Native.Char.{code}
use native.Mathlib.Omega.{arith}
use mathlib.Core.Path.{◌≡◌, refl}
use mathlib.Core.Bool.{Bool, true, false, cond, false≢true, and-eq-true_iff}
use mathlib.Core.List.{List, [], ◌∷◌, ◌++◌, append_assoc, append-nil}
use lib.Dec.{ltb, leb, eqb}
use lib.ListN.{length}
use borrow.Author.Tests.{eq-eqb, eqb-true, le-leb, leb-true}
use Rattle.output.specs.Text.{same, is_digit, all}
use Rattle.output.specs.Number.{digit, digits_in, decimal, time, fraction_in, fixed, integer, float, difference, whole_difference}

-- texts that are the same are equal, and the other way round
pub same_refl : (s : List ℕ) → same s s ≡ true
same_refl [] = refl
same_refl (x ∷ s) = rw (eq-eqb x x refl) (same_refl s)

pub same_true : (s t : List ℕ) → same s t ≡ true → s ≡ t
same_true [] [] e = refl
same_true [] (y ∷ t) e = absurd (false≢true e)
same_true (x ∷ s) [] e = absurd (false≢true e)
same_true (x ∷ s) (y ∷ t) e =
    let h = (and-eq-true_iff (eqb x y) (same s t)).0 e in
    rw (eqb-true x y h.0, same_true s t h.1)

pub same_not : (s t : List ℕ) → (s ≡ t → ⊥) → same s t ≡ false
same_not s t ne = go (same s t) refl
  where
    go : (b : Bool) → same s t ≡ b → b ≡ false
    go true e = absurd (ne (same_true s t e))
    go false e = refl

pub digit_range : (b : ℕ) → is_digit b ≡ true → (code "0" ≤ b) × (b ≤ code "9")
unfolding is_digit
digit_range b e =
    let h = (and-eq-true_iff (leb 48 b) (leb b 57)).0 e in
    (leb-true 48 b h.0, leb-true b 57 h.1)

pub digit_is : (n : ℕ) → is_digit (digit n) ≡ true
unfolding is_digit
digit_is n = rw (le-leb 48 (48 + n % 10) (omega arith), le-leb (48 + n % 10) 57 (omega arith))

-- each byte of a text
abbrev pub Every : (ℕ → Type 0) → List ℕ → Type 0
Every P [] = Unit
Every P (b ∷ bs) = P b × Every P bs

pub every_append : (P : ℕ → Type 0) (a b : List ℕ) → Every P a → Every P b → Every P (a ++ b)
every_append P [] b h k = k
every_append P (x ∷ a) b h k = (h.0, every_append P a b h.1 k)

pub every_cond : (P : ℕ → Type 0) (t : Bool) (a b : List ℕ) → Every P a → Every P b → Every P (cond t a b)
every_cond P true a b h k = h
every_cond P false a b h k = k

pub every_all : (is : ℕ → Bool) (s : List ℕ) → Every (λ b. is b ≡ true) s → all is s ≡ true
every_all is [] h = refl
every_all is (b ∷ s) h = rw (h.0, every_all is s h.1)

-- What holds of the digits holds of the texts that are made of them; so with the point and the minus.
module _ (P : ℕ → Type 0) (digits : (n : ℕ) → P (digit n)) where
  every_digits : (k n : ℕ) → Every P (digits_in k n)
  every_digits zero n = (digits n, tt)
  every_digits (suc k) n =
      every_append P (cond (ltb n 10) [] (digits_in k (n / 10))) (digit n ∷ []) (every_cond P (ltb n 10) [] _ tt (every_digits k (n / 10))) (digits n, tt)

  pub every_decimal : (n : ℕ) → Every P (decimal n)
  unfolding decimal
  every_decimal n = every_digits 19 n

  pub every_fraction : (base k f : ℕ) → Every P (fraction_in base k f)
  every_fraction base zero f = tt
  every_fraction base (suc k) f =
      (digits (f * 10 / base), every_cond P (eqb (f * 10 % base) 0) [] _ tt (every_fraction base k (f * 10 % base)))

  pub every_time : P (code ".") → (ms : ℕ) → Every P (time ms)
  unfolding time
  every_time p ms =
      every_append P (decimal (ms / 1000)) _ (every_decimal (ms / 1000)) (p, (digits (ms / 100), (digits (ms / 10), (digits ms, tt))))

  pub every_fixed : P (code ".") → (base k m : ℕ) → Every P (fixed base k m)
  unfolding fixed
  every_fixed p base k m = every_append P (decimal (m / base)) _ (every_decimal (m / base)) (p, every_fraction base k (m % base))

  pub every_integer : P (code "-") → (v : ℕ) → Every P (integer v)
  unfolding integer
  every_integer p v = every_cond P (ltb v (2 ^ 31)) _ _ (p, every_decimal (2 ^ 31 - v)) (every_decimal (v - 2 ^ 31))

  pub every_float : P (code ".") → P (code "-") → (v : ℕ) → Every P (float v)
  unfolding float
  every_float p q v = every_cond P (ltb v (2 ^ 30)) _ _ (q, every_fixed p 1024 10 (2 ^ 30 - v)) (every_fixed p 1024 10 (v - 2 ^ 30))

  pub every_difference : P (code ".") → (d : ℕ) → Every P (difference d)
  unfolding difference
  every_difference p d = every_fixed p 1000000 6 d

  pub every_whole_difference : (d : ℕ) → Every P (whole_difference d)
  unfolding whole_difference
  every_whole_difference d = every_decimal (d / 1000000)

-- the first byte of a text
abbrev pub first : List ℕ → ℕ
first [] = code "-"
first (b ∷ s) = b

first_digits : (k n : ℕ) (s : List ℕ) → code "0" ≤ first (digits_in k n ++ s)
first_digits zero n s = omega arith
first_digits (suc k) n s = go (ltb n 10) (first_digits k (n / 10) (digit n ∷ s))
  where
    go : (t : Bool) → code "0" ≤ first (digits_in k (n / 10) ++ (digit n ∷ s)) → code "0" ≤ first ((cond t [] (digits_in k (n / 10)) ++ (digit n ∷ [])) ++ s)
    go true h = omega arith
    go false h = rw (append_assoc (digits_in k (n / 10)) (digit n ∷ []) s) h

-- a decimal begins with a digit, whatever stands behind it
pub first_decimal : (n : ℕ) (s : List ℕ) → code "0" ≤ first (decimal n ++ s)
unfolding decimal
first_decimal n s = first_digits 19 n s

-- No text of a number is empty.
some_first : (s : List ℕ) → code "0" ≤ first s → 0 < length s
some_first [] h = absurd (omega arith)
some_first (b ∷ s) h = omega arith

some_cond : (t : Bool) (a b : List ℕ) → 0 < length a → 0 < length b → 0 < length (cond t a b)
some_cond true a b h k = h
some_cond false a b h k = k

pub some_decimal : (n : ℕ) → 0 < length (decimal n)
some_decimal n = some_first (decimal n) (rw (append-nil (decimal n)) at (first_decimal n []))

pub some_time : (ms : ℕ) → 0 < length (time ms)
unfolding time
some_time ms = some_first (time ms) (first_decimal (ms / 1000) _)

some_fixed : (base k m : ℕ) → 0 < length (fixed base k m)
unfolding fixed
some_fixed base k m = some_first (fixed base k m) (first_decimal (m / base) _)

pub some_integer : (v : ℕ) → 0 < length (integer v)
unfolding integer
some_integer v = some_cond (ltb v (2 ^ 31)) _ _ (omega arith) (some_decimal (v - 2 ^ 31))

pub some_float : (v : ℕ) → 0 < length (float v)
unfolding float
some_float v = some_cond (ltb v (2 ^ 30)) _ _ (omega arith) (some_fixed 1024 10 (v - 2 ^ 30))

pub some_difference : (d : ℕ) → 0 < length (difference d)
unfolding difference
some_difference d = some_fixed 1000000 6 d

pub some_whole_difference : (d : ℕ) → 0 < length (whole_difference d)
unfolding whole_difference
some_whole_difference d = some_decimal (d / 1000000)
