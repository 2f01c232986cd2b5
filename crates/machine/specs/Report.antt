-- Document 01, "Machine": when a pair reports. "Rules, with "changed" against the last report".
use Rattle.std.specs.Prelude.{ℕ, ◌+◌, ◌-◌, ◌*◌, ◌/◌, ◌%◌, Bool, true, false, cond, not, ◌&&◌, ◌||◌, List, eqb, leb, ltb}
use Rattle.message.specs.Delivery.{Delivery, to}
use Rattle.value.specs.declared.Sample.{Sample}
use Rattle.machine.specs.declared.Sensor.{Sensor}
use Rattle.machine.specs.declared.Sheet.{Sheet}
use Rattle.machine.specs.declared.Strategy.{Strategy}
use Rattle.machine.specs.declared.Strategy.TheVariants.{None, Auto, Period, Event, Differential, EventRate, DifferentialRate}
use Rattle.machine.specs.declared.Subscription.{Subscription}
use Rattle.machine.specs.declared.State.{State}
use Rattle.machine.specs.declared.Cause.{Cause}
use Rattle.machine.specs.declared.Cause.TheVariants.{Tick, Reading}
use Rattle.machine.specs.Places.{tabulate, gather, one_if}
use Rattle.machine.specs.Sheet.{sensor_of}
use Rattle.machine.specs.State.{present, connected, pair_at, with_pairs}
use Rattle.machine.specs.Messages.{status_for, report_of}

-- what a call that is carried out sends, and the state that it leaves
pub record Work : Type 0 where
  pub sent : List Delivery
  pub next : State

-- the status of the present reading is not that of the last report
unfoldable pub status_changed : Sensor → Sample → Sample → Bool
status_changed n last now = not (eqb (status_for n last) (status_for n now))

-- the same value
abbrev pub same_value : Sample → Sample → Bool
same_value x y = eqb x.number y.number

-- "status or value changed"
unfoldable pub changed : Sensor → Sample → Sample → Bool
changed n last now = status_changed n last now || not (same_value last now)

-- "Valid statuses are nominal, warn, error": a sample that has one
abbrev pub is_valid : Sample → Bool
is_valid x = eqb x.kind 1

-- how far two stored numbers are apart
abbrev pub apart : ℕ → ℕ → ℕ
apart a b = (a - b) + (b - a)

-- a difference on the scale on which a distance of k units is k · 1,000,000: its millionths, times 1024 where the unit is 1/1024
abbrev pub width : Sensor → ℕ → ℕ
width n d = cond (eqb n.kind 2) (d * 1024) d

-- "apart by more than the difference"
unfoldable pub beyond : Sensor → ℕ → ℕ → Bool
beyond n d distance = ltb (width n d) (distance * 1000000)

-- "status changed, or both valid and apart by more than the difference"
unfoldable pub moved : Sensor → ℕ → Sample → Sample → Bool
moved n d last now =
    status_changed n last now || (is_valid last && (is_valid now && beyond n d (apart last.number now.number)))

-- the rules; `reading`: at a reading, else at a tick; `gone`: clock − last
unfoldable pub due_by : Strategy → Bool → ℕ → Sensor → Sample → Sample → Bool
due_by None reading gone n last now = false
due_by Auto reading gone n last now = reading
due_by (Period p) reading gone n last now = not reading && leb p gone
due_by Event reading gone n last now = reading && changed n last now
due_by (Differential d) reading gone n last now = reading && moved n d last now
due_by (EventRate shortest longest) reading gone n last now = leb shortest gone && (changed n last now || ltb longest gone)
due_by (DifferentialRate d shortest longest) reading gone n last now = leb shortest gone && (moved n d last now || ltb longest gone)

-- whether a subscription reports: at a reading or a tick, with the clock and the sensor's present reading
unfoldable pub due : Bool → ℕ → Sensor → Sample → Subscription → Bool
due reading clock n now p = due_by p.strategy reading (clock - p.time) n p.sample now

-- "a report replaces the last"
abbrev pub reported : ℕ → Sample → Subscription → Subscription
reported clock now p = record { strategy = p.strategy; reported = true; sample = now; time = clock }

-- The visit of pairs.

-- at a reading
abbrev pub by_reading : Cause → Bool
by_reading Tick = false
by_reading (Reading j) = true

-- a tick visits every sensor's pairs, a reading those "for that sensor"
abbrev pub concerns : Cause → ℕ → Bool
concerns Tick k = true
concerns (Reading j) k = eqb j k

-- whether the pair of client c and sensor j reports
unfoldable pub due_at : Sheet → State → Cause → ℕ → ℕ → Subscription → Bool
due_at sheet s cause c j p =
    connected s c
    && (ltb j sheet.count && (concerns cause j && due (by_reading cause) s.clock (sensor_of sheet j) (present s j) p))

-- the pair at a place after the visit
unfoldable pub pair_after : Sheet → State → Cause → ℕ → Subscription
pair_after sheet s cause p =
    cond (due_at sheet s cause (p / 32) (p % 32) (pair_at s p)) (reported s.clock (present s (p % 32)) (pair_at s p)) (pair_at s p)

-- what it sends
unfoldable pub pair_sends : Sheet → State → Cause → ℕ → List Delivery
pair_sends sheet s cause p = one_if (due_at sheet s cause (p / 32) (p % 32) (pair_at s p)) (to (p / 32) (report_of sheet s (p % 32)))

-- "visits clients, each in sheet order", from the state as it stands after the tick or the reading
abbrev pub visit : Sheet → State → Cause → Work
visit sheet s cause = record { sent = gather (pair_sends sheet s cause) 256; next = with_pairs s (tabulate (pair_after sheet s cause) 256) }
