-- The bytes that a writer took and that a reader gave, over two calls.
use Rattle.std.proofs.Common.{◌≡◌, ℕ, ◌+◌, ◌-◌, ◌≤◌, List, ◌++◌, length, take, drop, Option, Some, None, Result, Ok, Err, sym, ap, ◌∙◌, subst, arith, take-append-drop, length-take, length-take-le, drop_at, refl}
use borrow.Rule.Slice.PartMut.{put_mid}
use lib.Seq.{take-take}
use Rattle.std.proofs.lemmas.List.{drop-take}
use Rattle.std.proofs.lemmas.Slice.{take-put_mid}
use Rattle.std.proofs.KnownBytes.{Appends-trans, Appends-kept, Consumes-trans}
use Rattle.std.specs.Io.{WritesAtMost}
use Rattle.std.specs.Io.KnownBytes.{Keeps, Appends, Consumes, WriteAppends, ReadConsumes}
use Rattle.std.specs.Result.{result_unwrap_or}

-- a text is its start and what stands behind it
joined : (xs : List ℕ) (from to : ℕ) → from ≤ to → take from xs ++ drop from (take to xs) ≡ take to xs
joined xs from to h = ap (λ (l : List ℕ). l ++ drop from (take to xs)) (sym (take-take from to xs h)) ∙ take-append-drop from (take to xs)

-- a write behind the first `at` bytes took as many as it answers, and none where it failed
pub taken_more : {E : Type 0} (a b c : Option (List ℕ)) (xs : List ℕ) (at : ℕ) (r : Result ℕ E) → at ≤ length xs → Appends a b (take at xs)
    → WritesAtMost r (take (length xs - at) (drop at xs)) → WriteAppends b c r (take (length xs - at) (drop at xs))
    → (at + result_unwrap_or r 0 ≤ length xs) × Appends a c (take (at + result_unwrap_or r 0) xs)
taken_more a b c xs at (Ok n) h before bound bytes =
    let fits : n ≤ length xs - at = omega (arith, bound, length-take (length xs - at) (drop at xs)) in
    let part : take n (take (length xs - at) (drop at xs)) ≡ drop at (take (at + n) xs) = take-take n (length xs - at) (drop at xs) fits ∙ sym (drop-take at n xs) in
    let whole : take at xs ++ take n (take (length xs - at) (drop at xs)) ≡ take (at + n) xs = ap (λ (l : List ℕ). take at xs ++ l) part ∙ joined xs at (at + n) (omega arith) in
    (omega arith, subst (Appends a c) whole (Appends-trans a b c _ _ before bytes))
taken_more a b c xs at (Err e) h before bound bytes =
    let none : at ≡ at + 0 = omega arith in
    (omega arith, subst (λ (k : ℕ). Appends a c (take k xs)) none (Appends-kept a b c (take at xs) before bytes))

-- what a read put behind the first `from` bytes follows those
pub given_more : (a b c : Option (List ℕ)) (buf after : List ℕ) (from to : ℕ) → from ≤ to → take from after ≡ take from buf
    → Consumes a b (take from buf) → Consumes b c (drop from (take to after)) → Consumes a c (take to after)
given_more a b c buf after from to forward front before more =
    let whole : take from buf ++ drop from (take to after) ≡ take to after = ap (λ (l : List ℕ). l ++ drop from (take to after)) (sym front) ∙ joined after from to forward in
    subst (Consumes a c) whole (Consumes-trans a b c _ _ before more)

after_kept : (a b c : Option (List ℕ)) (bs : List ℕ) → Keeps a b → Consumes b c bs → Consumes a c bs
after_kept None b c bs p q = tt
after_kept (Some x) None c bs p q = absurd p
after_kept (Some x) (Some y) None bs p q = absurd q
after_kept (Some x) (Some y) (Some z) bs p q = sym p ∙ q

-- what a read put behind the first `at` bytes, after calls that brought none
pub given_there : {E : Type 0} (a b c : Option (List ℕ)) (r : Result ℕ E) (at n : ℕ) (buf part : List ℕ) → r ≡ Ok n → at ≤ length buf → n ≤ length part
    → Keeps a b → ReadConsumes b c r part → Consumes a c (drop at (take (at + n) (put_mid at (length buf - at) buf part)))
given_there a b c r at n buf part is fits bound kept bytes =
    let whole = put_mid at (length buf - at) buf part in
    let front : take (at + n) whole ≡ take (at + n) (take at buf ++ part) =
    sym (take-take (at + n) (at + length part) whole (omega (arith, bound))) ∙ ap (take (at + n)) (take-put_mid at (length buf - at) buf part (at + length part) refl fits) in
    let stands : drop at (take (at + n) whole) ≡ take n part =
    ap (drop at) front ∙ drop-take at n (take at buf ++ part) ∙ ap (take n) (drop_at (take at buf) part at (length-take-le at buf fits)) in
    subst (Consumes a c) (sym stands) (after_kept a b c (take n part) kept (rw is at bytes).0)
