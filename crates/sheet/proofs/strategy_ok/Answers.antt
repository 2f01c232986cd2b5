-- Each arm is a row of `strategy_ok`.
use Rattle.machine.specs.Range.{strategy_ok}
use Rattle.sheet.proofs.strategy_ok.Goals as goal

pub returns-in-None : goal.returns-in-None
unfolding strategy_ok
returns-in-None c = rw c.in-None.is

pub returns-in-Auto : goal.returns-in-Auto
unfolding strategy_ok
returns-in-Auto c = rw c.in-Auto.is

pub returns-in-Period : goal.returns-in-Period
unfolding strategy_ok
returns-in-Period c = rw c.in-Period.is c.period_ok.ensures

pub returns-in-Event : goal.returns-in-Event
unfolding strategy_ok
returns-in-Event c = rw c.in-Event.is

pub returns-in-Differential : goal.returns-in-Differential
unfolding strategy_ok
returns-in-Differential c = rw c.in-Differential.is c.difference_ok.ensures

pub returns-in-EventRate : goal.returns-in-EventRate
unfolding strategy_ok
returns-in-EventRate c = rw c.in-EventRate.is c.rates_ok.ensures

pub returns-in-DifferentialRate : goal.returns-in-DifferentialRate
unfolding strategy_ok
returns-in-DifferentialRate c = rw (c.in-DifferentialRate.is, c.difference_ok-in-DifferentialRate.ensures, c.rates_ok-in-DifferentialRate.ensures)
