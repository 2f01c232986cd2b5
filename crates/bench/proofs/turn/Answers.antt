-- By the round.
use Rattle.bench.specs.Runs.{round_action}
use Rattle.bench.proofs.turn.Goals as goal

pub returns-in-Setup : goal.returns-in-Setup
unfolding round_action
returns-in-Setup c = rw c.in-Setup.is c.setup_turn.ensures

pub returns-in-Connect : goal.returns-in-Connect
unfolding round_action
returns-in-Connect c = rw c.in-Connect.is c.connect_turn.ensures

pub returns-in-Tick : goal.returns-in-Tick
unfolding round_action
returns-in-Tick c = rw c.in-Tick.is c.tick.ensures

pub returns-in-Reading : goal.returns-in-Reading
unfolding round_action
returns-in-Reading c = rw c.in-Reading.is c.reading.ensures

pub returns-in-Line : goal.returns-in-Line
unfolding round_action
returns-in-Line c = rw c.in-Line.is c.line.ensures
