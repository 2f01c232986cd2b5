-- The number with as many zeros as turns, `most` at most.
use Prim.Native.Nat.{ℕ, ◌*◌, ◌+◌, ◌-◌, ◌^◌, min}
use mathlib.Core.Path.{◌≡◌, ap, ◌∙◌}
use native.Mathlib.Omega.{arith}
use Rattle.numbers.proofs.DigitLaws.{zero_more}
use Rattle.numbers.proofs.with_zeros.Goals as goal

pub loop-preserved : goal.loop-preserved
loop-preserved c = let a = c.args in
    c.with_digit-m.ensures ∙ ap (λ (k : ℕ). min (k * 10 + (48 - 48)) a.most) c.loop.invariant ∙ zero_more a.most a.n c.loop.counter

pub returns : goal.returns
returns c = let a = c.args in
    let h : c.loop.counter ≡ a.count = omega arith in
    c.loop.invariant ∙ ap (λ (k : ℕ). min (a.n * 10 ^ k) a.most) h
