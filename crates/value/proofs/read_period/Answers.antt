-- A call with the numbers of `period_of`.
use Rattle.value.specs.Parameter.{period_of}
use Rattle.value.proofs.read_period.Goals as goal

pub returns : goal.returns
unfolding period_of
returns c = c.read_decimal.ensures
