-- A NaN has no count; any other number is read back from its pattern.
use mathlib.Core.Path.{sym, ap, subst, ◌∙◌}
use lib.Dec.{T}
use lib.Ieee.{binary64, fits}
use lib.Ieee.Bits.{of_bits-to_bits}
use Rattle.value.specs.Double.{exact1024}
use Rattle.value.proofs.BitLaws.{nan_unread}
use Rattle.value.proofs.exact_1024ths.Goals as goal

pub returns-then-is_nan : goal.returns-then-is_nan
returns-then-is_nan c = nan_unread c.args.x (sym c.is_nan.ensures.value ∙ c.if-is_nan.true)

pub returns : goal.returns
returns c = let held : T (fits binary64 c.args.x) = subst T (sym c.well_formed.0.1) tt in
    c.fit_bits.ensures ∙ ap exact1024 (of_bits-to_bits binary64 c.args.x held)
