-- By the cause, where there is a visit.
use borrow.Author.Tests.{lt-ltb, le-ltb}
use Rattle.sampling.specs.Visits.{first_place}
use Rattle.sampling.proofs.first_place.Goals as goal

pub returns-then-not-visiting : goal.returns-then-not-visiting
unfolding first_place
returns-then-not-visiting c = rw (c.if-not-visiting.true)

pub returns-in-Tick : goal.returns-in-Tick
unfolding first_place
returns-in-Tick c = rw (c.if-not-visiting.false, c.in-Tick.is)

pub returns-then-j-lt-SENSORS : goal.returns-then-j-lt-SENSORS
unfolding first_place
returns-then-j-lt-SENSORS c = rw (c.if-not-visiting.false, c.in-Reading.is, lt-ltb _ 32 c.if-j-lt-SENSORS.true)

pub returns-else-j-lt-SENSORS : goal.returns-else-j-lt-SENSORS
unfolding first_place
returns-else-j-lt-SENSORS c = rw (c.if-not-visiting.false, c.in-Reading.is, le-ltb _ 32 c.if-j-lt-SENSORS.false)
