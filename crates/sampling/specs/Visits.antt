-- How the code goes about a visit: what is visited, which strategies can report, and from which place to which it goes.
use Rattle.std.specs.Prelude.{ℕ, ◌+◌, ◌-◌, ◌%◌, Bool, true, false, cond, not, List, [], ltb}
use Rattle.machine.specs.declared.Cause.{Cause}
use Rattle.machine.specs.declared.Cause.TheVariants.{Tick, Reading}
use Rattle.machine.specs.declared.State.{State}
use Rattle.machine.specs.declared.Stored.{Stored}
use Rattle.machine.specs.declared.Strategy.{Strategy}
use Rattle.machine.specs.declared.Strategy.TheVariants.{None, Auto, Period, Event, Differential, EventRate, DifferentialRate}
use Rattle.machine.specs.State.{with_clock, with_readings}
use Rattle.machine.specs.Report.{Work, visit}

-- the state that is visited: with this clock and these readings
abbrev pub moment : State → ℕ → List Stored → State
moment s clock readings = with_readings (with_clock s clock) readings

-- what a call does to it: one that is declined visits nothing, and neither does a reading that is older than the stored one
abbrev pub visiting : Bool → State → Cause → Work
visiting visits s cause = cond visits (visit s.sheet s cause) (record { sent = []; next = s })

-- whether a strategy can report at a reading, or else at a tick, whatever the last report and the present reading are
unfoldable pub can_report : Bool → Strategy → Bool
can_report reading None = false
can_report reading Auto = reading
can_report reading (Period p) = not reading
can_report reading Event = reading
can_report reading (Differential d) = reading
can_report reading (EventRate shortest longest) = true
can_report reading (DifferentialRate d shortest longest) = true

-- the first place of a visit
abbrev pub first_of : Cause → ℕ
first_of Tick = 0
first_of (Reading j) = cond (ltb j 32) j 256

-- and of a call: none where it visits nothing
unfoldable pub first_place : Bool → Cause → ℕ
first_place visits cause = cond visits (first_of cause) 256

-- the place behind p, where client and sensor of p are there or not
unfoldable pub next_place : Cause → Bool → ℕ → ℕ
next_place Tick there p = cond there (p + 1) (p - p % 32 + 32)
next_place (Reading j) there p = p + 32
