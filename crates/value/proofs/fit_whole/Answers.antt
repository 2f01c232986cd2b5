-- The unit is 2^shift, and from 2^64 on the digits are below it.
use mathlib.Core.Path.{sym, ◌∙◌}
use Prim.Native.Nat.{◌^◌}
use Rattle.value.proofs.BitLaws.{unit_is, unit_pos, of_zero, of_part, of_whole, of_rest, far}
use Rattle.value.proofs.fit_whole.Goals as goal

pub returns-then-digits-eq0 : goal.returns-then-digits-eq0
returns-then-digits-eq0 c = rw c.if-digits-eq0.true (c.fit_size.ensures ∙ sym (of_zero c.args.negative (2 ^ c.args.shift)))

pub returns-then-shift-gt63 : goal.returns-then-shift-gt63
returns-then-shift-gt63 c = sym (of_part c.args.negative _ _ c.if-digits-eq0.false (far _ _ c.ranges.digits.fits c.if-shift-gt63.true))

pub nonzero_rem-rest : goal.nonzero_rem-rest
nonzero_rem-rest c = unit_pos _ c.if-shift-gt63.false

pub nonzero_div-digits : goal.nonzero_div-digits
nonzero_div-digits c = unit_pos _ c.if-shift-gt63.false

pub returns-then-rest-eq0 : goal.returns-then-rest-eq0
returns-then-rest-eq0 c = c.fit_size-then-rest-eq0.ensures ∙ of_whole c.args.negative _ _ _ (unit_is _ c.if-shift-gt63.false) c.if-rest-eq0.true

pub returns : goal.returns
returns c = of_rest c.args.negative _ _ _ (unit_is _ c.if-shift-gt63.false) c.if-rest-eq0.false
