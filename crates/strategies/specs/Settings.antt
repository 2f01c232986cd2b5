-- What the code makes of a strategy and its parameters, from the parts of a request.
use Rattle.machine.specs.declared.Strategy.{Strategy}
use Rattle.strategies.specs.declared.Kind.{Kind}
use Rattle.strategies.specs.declared.Kind.TheVariants.{None as NoStrategy, Auto, Period, Event, Differential, EventRate, DifferentialRate}
use Rattle.std.specs.Prelude.{ℕ, cond, List, map, Option, Some, None}
use Rattle.machine.specs.Places.{any}
use Rattle.machine.specs.Requests.{is_bad, number_of, strategy_by}

-- the place of a kind's word among those of the strategies
abbrev pub kind_number : Kind → ℕ
kind_number NoStrategy = 0
kind_number Auto = 1
kind_number Period = 2
kind_number Event = 3
kind_number Differential = 4
kind_number EventRate = 5
kind_number DifferentialRate = 6

-- the place that `strategy_named` gives a word: that of the kind that the word names, or 7 where it names none
abbrev pub word_place : Option Kind → ℕ
word_place (Some k) = kind_number k
word_place None = 7

-- a strategy of that place among the words, from its parameters, where each can be read
unfoldable pub made : ℕ → List (Option ℕ) → Option Strategy
made k ps = cond (any is_bad ps) None (Some (strategy_by k (map number_of ps)))
