-- A call with the numbers of `shortest_of`.
use Rattle.value.specs.Parameter.{shortest_of}
use Rattle.value.proofs.read_shortest.Goals as goal

pub returns : goal.returns
unfolding shortest_of
returns c = c.read_decimal.ensures
