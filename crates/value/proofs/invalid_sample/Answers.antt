-- The number is what `zero_of` answers.
use mathlib.Core.Path.{ap}
use Rattle.value.specs.Reading.{sample}
use Rattle.value.proofs.invalid_sample.Goals as goal

pub returns : goal.returns
returns c = ap (sample c.args.code) c.zero_of.ensures
