-- Each arm makes the strategy of its place from the parameters that `parameters_of` has for it; a bad one stays bad, whatever the others are.
use mathlib.Core.Path.{sym, ◌∙◌}
use Rattle.machine.specs.Requests.{parameters_of, strategy_by}
use Rattle.machine.specs.Places.{any}
use Rattle.strategies.specs.Settings.{made}
use Rattle.strategies.proofs.make.Goals as goal

pub returns-in_err-read_period-in-Period : goal.returns-in_err-read_period-in-Period
unfolding parameters_of strategy_by any made
returns-in_err-read_period-in-Period c = rw (c.from_residual.ensures, c.in-Period.is, sym c.read_period.ensures ∙ c.in_err-read_period-in-Period.was)

pub returns-in_err-difference_of-in-Differential : goal.returns-in_err-difference_of-in-Differential
unfolding parameters_of strategy_by any made
returns-in_err-difference_of-in-Differential c = rw (c.from_residual-in_err-difference_of-in-Differential.ensures, c.in-Differential.is, sym c.difference_of.ensures ∙ c.in_err-difference_of-in-Differential.was)

pub returns-in_err-read_shortest-in-EventRate : goal.returns-in_err-read_shortest-in-EventRate
unfolding parameters_of strategy_by any made
returns-in_err-read_shortest-in-EventRate c = rw (c.from_residual-in_err-read_shortest-in-EventRate.ensures, c.in-EventRate.is, sym c.read_shortest.ensures ∙ c.in_err-read_shortest-in-EventRate.was)

pub returns-in_err-read_period-in-EventRate : goal.returns-in_err-read_period-in-EventRate
unfolding parameters_of strategy_by any made
returns-in_err-read_period-in-EventRate c = rw (c.from_residual-in_err-read_period-in-EventRate.ensures, c.in-EventRate.is, sym c.read_shortest.ensures ∙ c.in_ok-read_shortest-in-EventRate.was, sym c.read_period-in-EventRate.ensures ∙ c.in_err-read_period-in-EventRate.was)

pub returns-in_err-difference_of-in-DifferentialRate : goal.returns-in_err-difference_of-in-DifferentialRate
unfolding parameters_of strategy_by any made
returns-in_err-difference_of-in-DifferentialRate c = rw (c.from_residual-in_err-difference_of-in-DifferentialRate.ensures, c.in-DifferentialRate.is, sym c.difference_of-in-DifferentialRate.ensures ∙ c.in_err-difference_of-in-DifferentialRate.was)

pub returns-in_err-read_shortest-in-DifferentialRate : goal.returns-in_err-read_shortest-in-DifferentialRate
unfolding parameters_of strategy_by any made
returns-in_err-read_shortest-in-DifferentialRate c = rw (c.from_residual-in_err-read_shortest-in-DifferentialRate.ensures, c.in-DifferentialRate.is, sym c.difference_of-in-DifferentialRate.ensures ∙ c.in_ok-difference_of-in-DifferentialRate.was, sym c.read_shortest-in-DifferentialRate.ensures ∙ c.in_err-read_shortest-in-DifferentialRate.was)

pub returns-in_err-read_period-in-DifferentialRate : goal.returns-in_err-read_period-in-DifferentialRate
unfolding parameters_of strategy_by any made
returns-in_err-read_period-in-DifferentialRate c = rw (c.from_residual-in_err-read_period-in-DifferentialRate.ensures, c.in-DifferentialRate.is, sym c.difference_of-in-DifferentialRate.ensures ∙ c.in_ok-difference_of-in-DifferentialRate.was, sym c.read_shortest-in-DifferentialRate.ensures ∙ c.in_ok-read_shortest-in-DifferentialRate.was, sym c.read_period-in-DifferentialRate.ensures ∙ c.in_err-read_period-in-DifferentialRate.was)

pub returns-in-Auto : goal.returns-in-Auto
unfolding parameters_of strategy_by any made
returns-in-Auto c = rw c.in-Auto.is

pub returns-in-Event : goal.returns-in-Event
unfolding parameters_of strategy_by any made
returns-in-Event c = rw c.in-Event.is

pub returns-in_ok-read_period-in-Period : goal.returns-in_ok-read_period-in-Period
unfolding parameters_of strategy_by any made
returns-in_ok-read_period-in-Period c = rw (c.in-Period.is, sym c.read_period.ensures ∙ c.in_ok-read_period-in-Period.was)

pub returns-in_ok-difference_of-in-Differential : goal.returns-in_ok-difference_of-in-Differential
unfolding parameters_of strategy_by any made
returns-in_ok-difference_of-in-Differential c = rw (c.in-Differential.is, sym c.difference_of.ensures ∙ c.in_ok-difference_of-in-Differential.was)

pub returns-in_ok-read_period-in-EventRate : goal.returns-in_ok-read_period-in-EventRate
unfolding parameters_of strategy_by any made
returns-in_ok-read_period-in-EventRate c = rw (c.in-EventRate.is, sym c.read_shortest.ensures ∙ c.in_ok-read_shortest-in-EventRate.was, sym c.read_period-in-EventRate.ensures ∙ c.in_ok-read_period-in-EventRate.was)

pub returns-in_ok-read_period-in-DifferentialRate : goal.returns-in_ok-read_period-in-DifferentialRate
unfolding parameters_of strategy_by any made
returns-in_ok-read_period-in-DifferentialRate c = rw (c.in-DifferentialRate.is, sym c.difference_of-in-DifferentialRate.ensures ∙ c.in_ok-difference_of-in-DifferentialRate.was, sym c.read_shortest-in-DifferentialRate.ensures ∙ c.in_ok-read_shortest-in-DifferentialRate.was, sym c.read_period-in-DifferentialRate.ensures ∙ c.in_ok-read_period-in-DifferentialRate.was)

pub returns-in-None : goal.returns-in-None
unfolding parameters_of strategy_by any made
returns-in-None c = rw c.in-None.is
