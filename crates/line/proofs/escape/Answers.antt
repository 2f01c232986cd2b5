-- Each letter stands in an arm of its own, and the last arm is no letter of the table.
use Rattle.line.specs.Line.{escape_of}
use Rattle.std.proofs.Common.{arith}
use Rattle.std.proofs.lemmas.Grind.{common_steps}
use Rattle.line.proofs.escape.Goals as goal

pub returns-in-92 : goal.returns-in-92
unfolding escape_of
returns-in-92 c = rw c.in-92.is

pub returns-in-95 : goal.returns-in-95
unfolding escape_of
returns-in-95 c = rw c.in-95.is

pub returns-in-48 : goal.returns-in-48
unfolding escape_of
returns-in-48 c = rw c.in-48.is

pub returns-in-110 : goal.returns-in-110
unfolding escape_of
returns-in-110 c = rw c.in-110.is

pub returns-in-114 : goal.returns-in-114
unfolding escape_of
returns-in-114 c = rw c.in-114.is

pub returns-in-101 : goal.returns-in-101
unfolding escape_of
returns-in-101 c = rw c.in-101.is

pub returns-in-116 : goal.returns-in-116
unfolding escape_of
returns-in-116 c = rw c.in-116.is

pub returns-in-64 : goal.returns-in-64
unfolding escape_of
returns-in-64 c = rw c.in-64.is

pub returns-in_default : goal.returns-in_default
unfolding escape_of
returns-in_default c = grind (arith, common_steps)
