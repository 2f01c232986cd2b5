-- Laws of outputs: texts one after another, a text that fits, a part that is lent on, the length that stays.
use Prim.Native.Nat.{ℕ, suc, ◌+◌, ◌≤◌, ◌<◌, min}
use native.Mathlib.Nat.{suc-add, add-zero, zero-add}
use native.Mathlib.Numerals.{add-one}
use native.Mathlib.Omega.{arith}
use mathlib.Core.Path.{◌≡◌, refl, ap, sym, ◌∙◌}
use mathlib.Core.List.{List, [], ◌∷◌, ◌++◌, append_assoc, append-nil}
use lib.ListN.{length, take, drop, set, get_or, length-set, length-append}
use lib.Seq.{sets, sets-eq, take-suc, take_all, set_out}
use Rattle.output.specs.Output.{Output, output, put, put_all, Wrote, laid}

pub put_all-append : (bs cs : List ℕ) (p : Output) → put_all p (bs ++ cs) ≡ put_all (put_all p bs) cs
put_all-append [] cs p = refl
put_all-append (b ∷ bs) cs p = put_all-append bs cs (put p b)

-- a text and then another
pub then : {p q r : Output} {bs cs : List ℕ} → Wrote p bs q → Wrote q cs r → Wrote p (bs ++ cs) r
then {p} {q} {r} {bs} {cs} e f =
    record { is = f.is ∙ ap (λ (x : Output). put_all x cs) e.is ∙ sym (put_all-append bs cs p) }

-- nothing
pub blank : {p : Output} → Wrote p [] p
blank = record { is = refl }

-- the text by another name
pub said : {p q : Output} {bs cs : List ℕ} → Wrote p bs q → bs ≡ cs → Wrote p cs q
said {p} {q} e f = record { is = e.is ∙ ap (put_all p) f }

-- a text with none behind it
pub alone : {p q : Output} {bs : List ℕ} → Wrote p bs q → Wrote p (bs ++ []) q
alone {bs = bs} e = said e (sym (append-nil bs))

-- one more byte of a text s
pub more : {p q r : Output} (s : List ℕ) (i : ℕ) → i < length s → Wrote p (take i s) q → Wrote q (get_or s i 0 ∷ []) r → Wrote p (take (i + 1) s) r
more {p} {q} {r} s i h e f = rw (add-one, take-suc s i 0) (then e f)

-- all of a text s
pub whole : {p q : Output} (s : List ℕ) (i : ℕ) → length s ≤ i → Wrote p (take i s) q → Wrote p s q
whole s i h e = rw (take_all i s h) at e

length-put_all : (bs : List ℕ) (p : Output) → length (put_all p bs).bytes ≡ length p.bytes
length-put_all [] p = refl
length-put_all (b ∷ bs) p = length-put_all bs (put p b) ∙ length-set p.bytes p.at b

-- writing keeps the output's length
pub same : {p q : Output} {bs : List ℕ} → Wrote p bs q → length q.bytes ≡ length p.bytes
same {p} {q} {bs} e = ap (λ (x : Output). length x.bytes) e.is ∙ length-put_all bs p

-- where a text fits, it stands at its place
put_sets : (bs xs : List ℕ) (at : ℕ) → at + length bs ≤ length xs → put_all (output xs at) bs ≡ output (sets xs at bs) (at + length bs)
put_sets [] xs at h = rw add-zero
put_sets (b ∷ bs) xs at h =
    let e : min (at + 1) (length xs) ≡ suc at = omega arith in
    let k : suc at + length bs ≡ at + suc (length bs) = omega arith in
    let f : suc at + length bs ≤ length (set xs at b) = rw length-set (omega arith) in
    rw (e, put_sets bs (set xs at b) (suc at) f, k)

pub put_fits : (bs xs : List ℕ) (at : ℕ) → at + length bs ≤ length xs → put_all (output xs at) bs ≡ output (take at xs ++ (bs ++ drop (at + length bs) xs)) (at + length bs)
put_fits bs xs at h =
    put_sets bs xs at h
    ∙ ap (λ (x : List ℕ). output x (at + length bs)) (sets-eq bs xs at h ∙ append_assoc (take at xs) bs (drop (at + length bs) xs))

-- a text that fits, written from the start: the count, the bytes, and the rest untouched
pub from_start : {xs ys : List ℕ} {r : ℕ} {bs : List ℕ} → Wrote (output xs 0) bs (output ys r) → length bs ≤ length xs → (r ≡ length bs) × (ys ≡ laid bs xs)
from_start {xs} {ys} {r} {bs} e h =
    let w = e.is ∙ put_fits bs xs 0 (omega arith) in
    (ap (λ (x : Output). x.at) w ∙ zero-add (length bs), ap (λ (x : Output). x.bytes) w ∙ rw zero-add)

-- the place after a text
pub put_at : (bs xs : List ℕ) (at : ℕ) → at ≤ length xs → (put_all (output xs at) bs).at ≡ min (at + length bs) (length xs)
put_at [] xs at h = omega arith
put_at (b ∷ bs) xs at h =
    let f : min (at + 1) (length xs) ≤ length (set xs at b) = rw length-set (omega arith) in
    put_at bs (set xs at b) (min (at + 1) (length xs)) f ∙ rw length-set (omega arith)

pub put_end : (bs xs : List ℕ) (at : ℕ) → 0 < length bs → length xs ≤ at + length bs → (put_all (output xs at) bs).at ≡ length xs
put_end [] xs at n h = absurd (omega arith)
put_end (b ∷ bs) xs at n h =
    let f : min (at + 1) (length xs) ≤ length (set xs at b) = rw length-set (omega arith) in
    put_at bs (set xs at b) (min (at + 1) (length xs)) f ∙ rw length-set (omega arith)

-- a text of one byte or more ends within the output
pub put_within : (b : ℕ) (bs : List ℕ) (p : Output) → (put_all p (b ∷ bs)).at ≤ length p.bytes
put_within b bs p =
    let f : min (p.at + 1) (length p.bytes) ≤ length (set p.bytes p.at b) = rw length-set (omega arith) in
    rw (put_at bs (set p.bytes p.at b) (min (p.at + 1) (length p.bytes)) f, length-set) (omega arith)

-- at the end neither the bytes change nor the place
pub put_full : (bs xs : List ℕ) → put_all (output xs (length xs)) bs ≡ output xs (length xs)
put_full [] xs = refl
put_full (b ∷ bs) xs =
    let e : min (length xs + 1) (length xs) ≡ length xs = omega arith in
    rw (set_out xs (length xs) b (omega arith), e, put_full bs xs)

-- an output with more before it
abbrev pub shift : List ℕ → Output → Output
shift a p = output (a ++ p.bytes) (length a + p.at)

set_shift : (a xs : List ℕ) (i b : ℕ) → set (a ++ xs) (length a + i) b ≡ a ++ set xs i b
set_shift [] xs i b = rw zero-add
set_shift (x ∷ a) xs i b = rw (suc-add, set_shift a xs i b)

-- what is written on a part that is lent on is written on the whole
pub put_shift : (bs a xs : List ℕ) (at : ℕ) → put_all (shift a (output xs at)) bs ≡ shift a (put_all (output xs at) bs)
put_shift [] a xs at = refl
put_shift (b ∷ bs) a xs at =
    let e : min (length a + at + 1) (length a + length xs) ≡ length a + min (at + 1) (length xs) = omega arith in
    rw (set_shift, length-append, e) (put_shift bs a (set xs at b) (min (at + 1) (length xs)))
