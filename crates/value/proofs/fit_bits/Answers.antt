-- The pattern's fields.
use mathlib.Core.Path.{sym, ◌∙◌}
use Rattle.value.specs.Double.{whole_of}
use Rattle.value.proofs.BitLaws.{whole_same, whole_big, bits_low, bits_mid, bits_high}
use Rattle.value.proofs.fit_bits.Goals as goal

pub returns-then-field-eq0 : goal.returns-then-field-eq0
returns-then-field-eq0 c = c.fit_whole.ensures ∙ sym (bits_low whole_of whole_same whole_big _ c.if-field-eq0.true)

pub returns-then-field-gt1043 : goal.returns-then-field-gt1043
returns-then-field-gt1043 c = sym (bits_high whole_of whole_same whole_big _ c.if-field-gt1043.true)

pub returns : goal.returns
returns c = c.fit_whole-2.ensures ∙ sym (bits_mid whole_of whole_same whole_big _ c.if-field-eq0.false c.if-field-gt1043.false)
