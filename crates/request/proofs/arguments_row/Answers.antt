-- By the request; the rows of help and log-level look at no sheet.
use native.Mathlib.Omega.{arith}
use Rattle.std.proofs.Common.{inl, inr}
use Rattle.machine.specs.Declined.{arguments_declined}
use Rattle.request.proofs.arguments_row.Goals as goal

pub returns-in-Help : goal.returns-in-Help
unfolding arguments_declined
returns-in-Help c = rw c.in-Help.is c.help_row.ensures

pub returns-in-LogLevel : goal.returns-in-LogLevel
unfolding arguments_declined
returns-in-LogLevel c = rw c.in-LogLevel.is c.level_row.ensures

pub returns-in-SensorList : goal.returns-in-SensorList
unfolding arguments_declined
returns-in-SensorList c = elim c.in-SensorList.is [ inl e ↦ rw e c.told_row.ensures | inr e ↦ rw e c.told_row.ensures ]

pub returns-in-SensorSampling : goal.returns-in-SensorSampling
unfolding arguments_declined
returns-in-SensorSampling c = rw c.in-SensorSampling.is c.sampling_row.ensures

pub returns-in_default : goal.returns-in_default
unfolding arguments_declined
returns-in_default c = grind arith
