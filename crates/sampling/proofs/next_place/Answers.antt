-- By the cause, and at a tick by whether client and sensor are there.
use Rattle.sampling.specs.Visits.{next_place}
use Rattle.sampling.proofs.next_place.Goals as goal

pub returns-then-there : goal.returns-then-there
unfolding next_place
returns-then-there c = cc

pub returns-else-there : goal.returns-else-there
unfolding next_place
returns-else-there c = cc

pub returns-in-Reading : goal.returns-in-Reading
unfolding next_place
returns-in-Reading c = cc
