-- The number so far and the digits of the rest make the number of the text, `most` at most.
use Prim.Native.Nat.{ℕ, ◌+◌, min}
use mathlib.Core.Path.{ap, sym, ◌∙◌}
use native.Mathlib.Nat.{min-eq_left}
use native.Mathlib.Omega.{arith}
use lib.ListN.{drop}
use Rattle.output.specs.Read.{value_from}
use Rattle.numbers.proofs.DigitLaws.{value_more, value_end}
use Rattle.numbers.proofs.digits_after.Goals as goal

pub loop-b-preserved : goal.loop-b-preserved
loop-b-preserved c = let t = c.args.t.now in let most = c.args.most in
    (omega arith, ap (λ (n : ℕ). min (value_from n (drop (c.loop-b.b-index + 1) t)) most) c.with_digit-m.ensures ∙ value_more most t c.loop-b.b-index c.loop-b.m (omega arith) ∙ c.loop-b.invariant.1)

pub returns : goal.returns
returns c = let h = value_end c.args.t.now c.loop-b.b-index c.loop-b.m (omega arith) in
    sym (min-eq_left c.loop-b.invariant.0) ∙ ap (λ (n : ℕ). min n c.args.most) (sym h) ∙ c.loop-b.invariant.1
