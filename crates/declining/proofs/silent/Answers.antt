-- The answer by its parts.
use Rattle.declining.proofs.silent.Goals as goal

pub returns : goal.returns
returns g c = rw c.number.ensures
