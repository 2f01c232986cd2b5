-- Where a sensor is there, `sample_ok` and the time; else `sample_none` and time 0.
use Rattle.machine.specs.Range.{stored_none}
use Rattle.sheet.proofs.stored_ok.Goals as goal

pub returns-then-there : goal.returns-then-there
returns-then-there c = cc

pub returns : goal.returns
unfolding stored_none
returns c = cc
