-- What is left behind the point makes 0, or the number is not whole.
use Prim.Native.Nat.{ℕ, ◌-◌}
use native.Mathlib.Omega.{arith}
use mathlib.Core.Path.{◌≡◌, ap, ◌∙◌}
use lib.ListN.{length}
use Rattle.scientific.proofs.ShiftedLaws.{not_whole, whole}
use Rattle.scientific.proofs.shifted.Goals as goal

pub returns-then-lost : goal.returns-then-lost
returns-then-lost c = let keep : let s = c.args in c.saturating_sub-keep.result ≡ length s.whole.now - (s.down - s.up) = c.saturating_sub-keep.ensures ∙ ap (λ (n : ℕ). length c.args.whole.now - n) c.saturating_sub.ensures in
    not_whole c.args.whole.now c.args.fraction.now c.requires.0 c.requires.1 c.args.up c.args.down c.saturating_sub-right.ensures keep
    c.rest.ensures c.rest-2.ensures c.both_value-left_behind.ensures (omega (arith, c.if-lost.true))

pub returns : goal.returns
returns c = let keep : let s = c.args in c.saturating_sub-keep.result ≡ length s.whole.now - (s.down - s.up) = c.saturating_sub-keep.ensures ∙ ap (λ (n : ℕ). length c.args.whole.now - n) c.saturating_sub.ensures in
    whole c.args.whole.now c.args.fraction.now c.requires.0 c.requires.1 c.args.up c.args.down c.saturating_sub-right.ensures keep
    c.rest.ensures c.rest-2.ensures c.both_value-left_behind.ensures (omega (arith, c.if-lost.false))
    c.prefix-high.ensures c.prefix-low.ensures c.saturating_sub-zeros.ensures c.both_value.ensures c.with_zeros.ensures
