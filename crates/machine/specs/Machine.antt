-- Document 01, "Machine": what a call does, what it returns, and what its output holds then.
use Rattle.std.specs.Prelude.{ℕ, zero, suc, cond, List, [], ◌∷◌, ◌++◌, leb, length, Some, None, Option}
use Rattle.output.specs.Output.{laid}
use Rattle.message.specs.Delivery.{Delivery, to, deliveries}
use Rattle.value.specs.declared.Sample.{Sample}
use Rattle.value.specs.Reading.{sample_of, fresh}
use Rattle.machine.specs.declared.Sensor.{Sensor}
use Rattle.machine.specs.declared.Sheet.{Sheet}
use Rattle.machine.specs.declared.Stored.{Stored}
use Rattle.machine.specs.declared.State.{State}
use Rattle.machine.specs.declared.Answer.{Answer}
use Rattle.machine.specs.declared.Cause.TheVariants.{Tick as Ticked, Reading as Read}
use Rattle.machine.specs.Places.{one_if}
use Rattle.machine.specs.Sheet.{single, sensor_of}
use Rattle.machine.specs.State.{connected, stored_of, with_clock, with_reading, supersedes, with_client, client_at, blank_client}
use Rattle.machine.specs.Messages.{version_connect, protocol_args, device_args, client_connected, displaced, log_entry, to_all, to_others}
use Rattle.machine.specs.Report.{Work, visit}
use Rattle.machine.specs.Requests.{Asked, Nothing, NotMessage, Reply, Unknown, Asks, asked, sends_only, answer}
use Rattle.machine.specs.Declined.{Arrival, Action, Connect, Disconnect, Tick, Reading, Log, Line, Call, declined, refusal}

-- the sample that a fit reading becomes
abbrev pub sample_in : ℕ → Option Sample → Sample
sample_in t (Some x) = x
sample_in t None = fresh t

-- the sample that a sensor's reading becomes
unfoldable pub sample_given : Sensor → Arrival → Sample
sample_given n r = sample_in n.kind (sample_of n.kind n.option_count r.reading)

-- what is stored of it: document 02, (g), "A reading now brings its own time"
abbrev pub stored_given : Sensor → Arrival → Stored
stored_given n r = record { sample = sample_given n r; time = r.time }

-- "first the newcomer gets `#version-connect katcp-protocol 5.1-MIB`, then `katcp-device`"
abbrev pub greeting : Sheet → ℕ → List Delivery
greeting sheet c = to c (version_connect (protocol_args sheet.profile)) ∷ to c (version_connect (device_args sheet)) ∷ []

-- document 02, (m): "A connect while connected gives the old client `#disconnect` .., and then greets the newcomer"; "No `client-connected` is sent"
abbrev pub connect_single : Sheet → State → ℕ → List ℕ → List Delivery
connect_single sheet s c address = one_if (connected s c) (to c (displaced address)) ++ greeting sheet c

-- by the profile; under 0 "then the other clients get `#client-connected` with the address"
unfoldable pub connect_sends : Sheet → State → ℕ → List ℕ → List Delivery
connect_sends sheet s c address = cond (single sheet.profile) (connect_single sheet s c address) (greeting sheet c ++ to_others s c (client_connected address))

-- "sent .. to all if its level is at or above the set one": more severe levels have lower numbers
unfoldable pub entries : State → ℕ → List ℕ → List ℕ → List Delivery
entries s level logger said = cond (leb level s.level) (to_all s (log_entry level s.clock logger said)) []

-- a reading that supersedes the stored one: "stores, then visits each client's pair for that sensor"
abbrev pub reading_stored : Sheet → State → ℕ → Arrival → Work
reading_stored sheet s j r = visit sheet (with_reading s j (stored_given (sensor_of sheet j) r)) (Read j)

-- document 02, (g): "An older one is accepted, changes nothing and causes no report, under auto too"
unfoldable pub reading_work : Sheet → State → ℕ → Arrival → Work
reading_work sheet s j r = cond (supersedes r.time (stored_of s j)) (reading_stored sheet s j r) (sends_only s [])

-- a line that is not declined
unfoldable pub line_work : Sheet → State → ℕ → Asked → Work
line_work sheet s c Nothing = sends_only s []
line_work sheet s c NotMessage = sends_only s []
line_work sheet s c Reply = sends_only s []
line_work sheet s c (Unknown m) = sends_only s []
line_work sheet s c (Asks r m) = answer sheet s c r m

-- what a call that is not declined does
unfoldable pub perform : Sheet → State → Action → Work
perform sheet s (Connect c address) = record { sent = connect_sends sheet s c address; next = with_client s c (client_at address) }
perform sheet s (Disconnect c) = record { sent = []; next = with_client s c blank_client }
perform sheet s (Tick t) = visit sheet (with_clock s t) Ticked
perform sheet s (Reading j r) = reading_work sheet s j r
perform sheet s (Log level logger said) = sends_only s (entries s level logger said)
perform sheet s (Line c line) = line_work sheet s c (asked line)

-- what a call comes to: its number, what it sends, the next state
pub record Effect : Type 0 where
  pub number : ℕ
  pub sent : List Delivery
  pub next : State

-- carried out
abbrev pub done : Work → Effect
done w = record { number = 0; sent = w.sent; next = w.next }

-- declined with a number: "left as it was: state"
abbrev pub left : State → ℕ → Action → Effect
left s n action = record { number = n; sent = refusal s n action; next = s }

-- by the number that declines it
unfoldable pub outcome : Sheet → State → Action → ℕ → Effect
outcome sheet s action zero = done (perform sheet s action)
outcome sheet s action (suc n) = left s (suc n) action

-- a call
abbrev pub step : State → Call → Effect
step s call = outcome s.sheet s call.action (declined s.sheet s call)

-- the bytes that it writes
abbrev pub written : Effect → List ℕ
written e = deliveries e.sent

-- "every other call is lent an output and returns number, bytes written and next state"
abbrev pub answer_of : Effect → Answer
answer_of e = record { number = e.number; written = length (written e); state = e.next }

-- the output as the call returns: "output past that count is untouched"
abbrev pub output_of : Effect → List ℕ → List ℕ
output_of e lent = laid (written e) lent
