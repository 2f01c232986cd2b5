-- Each kind of entry makes the call that its definition names.
use Rattle.terminal.specs.Entry.{action_by}
use Rattle.terminal.proofs.perform.Goals as goal

pub returns-in-Tick : goal.returns-in-Tick
unfolding action_by
returns-in-Tick c = rw (← c.entry_of-entry.ensures, c.in-Tick.is) c.tick.ensures

pub returns-in-Reading : goal.returns-in-Reading
unfolding action_by
returns-in-Reading c = rw (← c.entry_of-entry.ensures, c.in-Reading.is) c.reading.ensures

pub returns-in-Line : goal.returns-in-Line
unfolding action_by
returns-in-Line c = rw (← c.entry_of-entry.ensures, c.in-Line.is) c.line.ensures
