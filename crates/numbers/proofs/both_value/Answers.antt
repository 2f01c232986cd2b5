-- The digits of b behind those of a.
use Prim.Native.Nat.{ℕ, min}
use mathlib.Core.Path.{ap, ◌∙◌}
use Rattle.output.specs.Read.{value_from}
use Rattle.numbers.proofs.DigitLaws.{value_both}
use Rattle.numbers.proofs.both_value.Goals as goal

pub returns : goal.returns
returns c = let s = c.args in
    c.digits_after.ensures ∙ ap (λ (n : ℕ). min (value_from n s.b.now) s.most) c.digits_value.ensures ∙ value_both s.most 0 s.a.now s.b.now
