-- Each strategy by its rule.
use Rattle.machine.specs.Report.{due_by, due}
use Rattle.sampling.proofs.is_due.Goals as goal

pub returns-in-None : goal.returns-in-None
unfolding due due_by
returns-in-None c = rw c.in-None.is

pub returns-in-Auto : goal.returns-in-Auto
unfolding due due_by
returns-in-Auto c = rw c.in-Auto.is

pub returns-in-Period : goal.returns-in-Period
unfolding due due_by
returns-in-Period c = rw (c.in-Period.is, c.since-gone.ensures)

pub returns-in-Event : goal.returns-in-Event
unfolding due due_by
returns-in-Event c = rw (c.in-Event.is, c.is_changed.ensures)

pub returns-in-Differential : goal.returns-in-Differential
unfolding due due_by
returns-in-Differential c = rw (c.in-Differential.is, c.has_moved.ensures)

pub returns-in-EventRate : goal.returns-in-EventRate
unfolding due due_by
returns-in-EventRate c = rw (c.in-EventRate.is, c.since-gone.ensures, c.is_changed-in-EventRate.ensures)

pub returns-in-DifferentialRate : goal.returns-in-DifferentialRate
unfolding due due_by
returns-in-DifferentialRate c = rw (c.in-DifferentialRate.is, c.since-gone.ensures, c.has_moved-in-DifferentialRate.ensures)
