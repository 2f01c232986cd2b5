-- The number without as many digits as turns.
use Prim.Native.Nat.{ℕ, ◌/◌, ◌^◌}
use mathlib.Core.Path.{◌≡◌, ap, ◌∙◌}
use native.Mathlib.Omega.{arith}
use Rattle.numbers.proofs.DigitLaws.{digit_less}
use Rattle.numbers.proofs.without_digits.Goals as goal

pub loop-preserved : goal.loop-preserved
loop-preserved c = ap (λ (k : ℕ). k / 10) c.loop.invariant ∙ digit_less c.args.n c.loop.counter

pub returns : goal.returns
returns c = let h : c.loop.counter ≡ c.args.places = omega arith in
    c.loop.invariant ∙ ap (λ (k : ℕ). c.args.n / 10 ^ k) h
