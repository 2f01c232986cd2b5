-- By the strategy.
use mathlib.Core.Path.{◌≡◌, refl}
use mathlib.Core.Bool.{false}
use Rattle.machine.specs.declared.Strategy.{Strategy}
use Rattle.machine.specs.declared.Strategy.TheVariants.{None, Auto, Period, Event, Differential, EventRate, DifferentialRate}
use Rattle.machine.specs.Range.{is_none}
use Rattle.machine.proofs.is_none.Goals as goal

-- any other strategy is not none
another : (strategy : Strategy) → (strategy ≡ None → ⊥) → false ≡ is_none strategy
unfolding is_none
another None h = absurd (h refl)
another Auto h = refl
another (Period _) h = refl
another Event h = refl
another (Differential _) h = refl
another (EventRate _ _) h = refl
another (DifferentialRate _ _ _) h = refl

pub returns-in-None : goal.returns-in-None
unfolding is_none
returns-in-None c = rw c.in-None.is

pub returns-in_default : goal.returns-in_default
returns-in_default c = another c.args.strategy c.in_default.not-None
