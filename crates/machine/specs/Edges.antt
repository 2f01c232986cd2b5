-- The starred cases of document 01's "Edges", together.
use Rattle.std.specs.Prelude.{ℕ, ◌+◌, ◌-◌, ◌^◌, ◌≡◌, true, false, [], ◌∷◌, map, Some}
use Rattle.output.specs.Text.{text}
use Rattle.line.specs.Edges.{LineEdges}
use Rattle.value.specs.Parameter.{float_difference_of, period_of, shortest_of}
use Rattle.value.specs.Status.{status_text}
use Rattle.value.specs.declared.Limits.{Limits}
use Rattle.value.specs.declared.Sample.{Sample}
use Rattle.value.specs.Reading.{sample}
use Rattle.machine.specs.declared.Sensor.{Sensor}
use Rattle.machine.specs.declared.Strategy.{Strategy}
use Rattle.machine.specs.declared.Strategy.TheVariants.{Period, Differential, EventRate}
use Rattle.machine.specs.declared.Subscription.{Subscription}
use Rattle.machine.specs.State.{blank_sheet}
use Rattle.machine.specs.Opening.{sensor, with_limits}
use Rattle.machine.specs.Messages.{status_for}
use Rattle.machine.specs.Report.{due}
use Rattle.machine.specs.Requests.{asked}
use Rattle.machine.specs.Declined.{line_declined}

-- a valid integer, 0 or above
abbrev pub integer : ℕ → Sample
integer n = sample 1 (2 ^ 31 + n)

-- n below 0
abbrev pub below : ℕ → Sample
below n = sample 1 (2 ^ 31 - n)

-- so many 1024ths
abbrev pub float : ℕ → Sample
float n = sample 1 (2 ^ 30 + n)

-- "Limits 0, 1000, −5, 1200"
abbrev pub limits : Limits
limits = record { count = 4; nominal_min = 2 ^ 31; nominal_max = 2 ^ 31 + 1000; warn_min = 2 ^ 31 - 5; warn_max = 2 ^ 31 + 1200 }

-- an integer sensor with these
abbrev pub limited : Sensor
limited = with_limits (sensor [] [] [] 1) limits

-- a float sensor without limits
abbrev pub free : Sensor
free = sensor [] [] [] 2

-- a subscription whose last report was 0.0 at 5.000
abbrev pub since : Strategy → Subscription
since st = record { strategy = st; reported = true; sample = float 0; time = 5000 }

-- document 01's starred cases
pub record Edges : Type 0 where
  pub lines : LineEdges
  -- "*`[2147483647]` read, *`[2147483648]` 12": the numbers of the two lines
  pub ids : map (λ l. line_declined blank_sheet (asked l)) (text "?watchdog[2147483647]" ∷ text "?watchdog[2147483648]" ∷ []) ≡ 0 ∷ 12 ∷ []
  -- "*1000 nominal, *1001 warn, *1201 error, *−6 error"
  pub statuses : map (λ x. status_text (status_for limited x)) (integer 1000 ∷ integer 1001 ∷ integer 1201 ∷ below 6 ∷ [])
      ≡ text "nominal" ∷ text "warn" ∷ text "error" ∷ text "error" ∷ []
  -- the parameters of the cases below, as they are stored
  pub parameters : float_difference_of (text "0.1") ∷ period_of (text "1.5") ∷ shortest_of (text "1") ∷ period_of (text "3") ∷ []
      ≡ Some 100000 ∷ Some 1500 ∷ Some 1000 ∷ Some 3000 ∷ []
  -- "Float difference 0.1, last report 0.0, status alike: *102/1024 silent, *103/1024 reported"
  pub differences : map (λ n. due true 5000 free (float n) (since (Differential 100000))) (102 ∷ 103 ∷ []) ≡ false ∷ true ∷ []
  -- "Period 1.5 from 5.000: *6.499 silent, *6.500 reports"
  pub periods : map (λ t. due false t free (float 0) (since (Period 1500))) (6499 ∷ 6500 ∷ []) ≡ false ∷ true ∷ []
  -- "Event-rate, shortest 1, longest 3, unchanged, from 5.000: *8.000 silent, *8.001 reports"
  pub rates : map (λ t. due false t free (float 0) (since (EventRate 1000 3000))) (8000 ∷ 8001 ∷ []) ≡ false ∷ true ∷ []
