-- Each arm writes the parameters of its strategy.
use Rattle.output.proofs.OutputLaws.{blank}
use Rattle.output.proofs.OutputLaws.{alone}
use Rattle.strategies.proofs.put_args_parameters.Goals as goal

pub returns-in-None : goal.returns-in-None
returns-in-None c = rw c.in-None.is blank

pub returns-in-Auto : goal.returns-in-Auto
returns-in-Auto c = rw c.in-Auto.is blank

pub returns-in-Period : goal.returns-in-Period
returns-in-Period c = rw c.in-Period.is (alone c.put_arg_number.ensures)

pub returns-in-Event : goal.returns-in-Event
returns-in-Event c = rw c.in-Event.is blank

pub returns-in-Differential : goal.returns-in-Differential
returns-in-Differential c = rw c.in-Differential.is (alone c.put_arg_difference.ensures)

pub returns-in-EventRate : goal.returns-in-EventRate
returns-in-EventRate c = rw c.in-EventRate.is c.put_args_rate.ensures

pub returns-in-DifferentialRate : goal.returns-in-DifferentialRate
returns-in-DifferentialRate c = rw c.in-DifferentialRate.is c.put_args_difference_rate.ensures
