-- A subscription's turn: its strategy cannot report, or it is asked.
use Prim.Native.Nat.{ℕ}
use mathlib.Core.Path.{◌≡◌, refl, sym}
use mathlib.Core.Bool.{Bool, true, false, ◌&&◌, true≢false}
use Rattle.value.specs.declared.Sample.{Sample}
use Rattle.machine.specs.declared.Sensor.{Sensor}
use Rattle.machine.specs.declared.Strategy.{Strategy}
use Rattle.machine.specs.declared.Strategy.TheVariants.{None, Auto, Period, Event, Differential, EventRate, DifferentialRate}
use Rattle.machine.specs.declared.Subscription.{Subscription}
use Rattle.machine.specs.Report.{due, due_by}
use Rattle.sampling.specs.Visits.{can_report}

-- a strategy that cannot report does not
cannot_by : (st : Strategy) (reading : Bool) (gone : ℕ) (n : Sensor) (last now : Sample) → can_report reading st ≡ false → due_by st reading gone n last now ≡ false
unfolding can_report due_by
cannot_by None reading gone n last now h = refl
cannot_by Auto reading gone n last now h = h
cannot_by (Period p) reading gone n last now h = rw h
cannot_by Event reading gone n last now h = rw h
cannot_by (Differential d) reading gone n last now h = rw h
cannot_by (EventRate a b) reading gone n last now h = absurd (true≢false h)
cannot_by (DifferentialRate d a b) reading gone n last now h = absurd (true≢false h)

-- it is not there, or cannot report
pub cannot : (there reading : Bool) (clock : ℕ) (n : Sensor) (now : Sample) (p : Subscription)
    → (there && can_report reading p.strategy) ≡ false → (there && due reading clock n now p) ≡ false
unfolding due
cannot false reading clock n now p h = refl
cannot true reading clock n now p h = cannot_by p.strategy reading _ n p.sample now h

-- it is there, and reports or not
pub asked : (there can d is : Bool) → (there && can) ≡ true → is ≡ d → (there && d) ≡ is
asked true can d is h e = sym e
asked false can d is h e = absurd (true≢false (sym h))
