-- Two texts have a digit where one of them has.
use mathlib.Core.Path.{ap₂}
use mathlib.Core.Bool.{◌&&◌}
use Rattle.scientific.proofs.ReadLaws.{some_digits}
use Rattle.scientific.proofs.is_scientific.Goals as goal

pub returns : goal.returns
returns c = let a = c.args in ap₂ ◌&&◌ (some_digits a.whole.now a.fraction.now) c.exponent_ok.ensures
