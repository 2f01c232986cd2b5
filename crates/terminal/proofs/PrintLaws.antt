-- What stands at the start of a buffer that a text was written on: the text, or as much of it as the buffer holds.
use Rattle.std.proofs.Common.{ℕ, ◌≡◌, ◌≤◌, ◌<◌, Bool, true, false, List, [], ◌++◌, length, take, drop, leb, refl, sym, ap, subst, ◌∙◌, arith, take-append-drop, length-take-le, zero-add}
use borrow.Author.Tests.{leb-true, leb-false}
use lib.Seq.{take_all, take-take, drop-length, take-append-le, take-length}
use mathlib.Core.List.{append-nil}
use Rattle.output.specs.Output.{output, put_all, Wrote}
use Rattle.output.proofs.OutputLaws.{put_all-append, put_fits, put_full, from_start}

filled : (bs xs : List ℕ) → length xs ≤ length bs → put_all (output xs 0) bs ≡ output (take (length xs) bs) (length xs)
filled bs xs h =
    let n = length xs in
    let f : length (take n bs) ≡ n = length-take-le n bs h in
    let whole : put_all (output xs 0) bs ≡ put_all (put_all (output xs 0) (take n bs)) (drop n bs) =
    ap (put_all (output xs 0)) (sym (take-append-drop n bs)) ∙ put_all-append (take n bs) (drop n bs) (output xs 0) in
    let front : put_all (output xs 0) (take n bs) ≡ output (take n bs) n = put_fits (take n bs) xs 0 (omega (arith, f)) ∙ rw (zero-add, f, drop-length xs, append-nil) in
    let full : put_all (output (take n bs) n) (drop n bs) ≡ output (take n bs) n =
    subst (λ (k : ℕ). put_all (output (take n bs) k) (drop n bs) ≡ output (take n bs) k) f (put_full (drop n bs) (take n bs)) in
    whole ∙ ap (λ (x : _). put_all x (drop n bs)) front ∙ full

pub start : {xs ys : List ℕ} {r : ℕ} {bs : List ℕ} → Wrote (output xs 0) bs (output ys r) → take r ys ≡ take (length xs) bs
start {xs} {ys} {r} {bs} e = go (leb (length bs) (length xs)) refl
  where
    go : (b : Bool) → leb (length bs) (length xs) ≡ b → take r ys ≡ take (length xs) bs
    go true h =
        let fits = leb-true (length bs) (length xs) h in
        let w = from_start e fits in
        rw (w.0, w.1, take-append-le (length bs) bs (drop (length bs) xs) (omega arith), take-length bs, take_all (length xs) bs fits)
    go false h =
        let more = leb-false (length bs) (length xs) h in
        let w = e.is ∙ filled bs xs (omega (arith, more)) in
        rw (ap (λ (x : _). x.at) w, ap (λ (x : _). x.bytes) w, take-take (length xs) (length xs) bs (omega arith))
