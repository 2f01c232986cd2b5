-- Calls made one after another on one device, for measuring: each is lent the output as the last one left it.
use Rattle.std.specs.Prelude.{ℕ, zero, suc, ◌*◌, ◌/◌, ◌%◌, Bool, cond, ◌&&◌, List, eqb, leb, length, pos}
use Rattle.output.specs.Text.{text}
use Rattle.value.specs.declared.Reading.TheVariants.{Integer}
use Rattle.machine.specs.declared.State.{State}
use Rattle.machine.specs.declared.Answer.{Answer}
use Rattle.machine.specs.Range.{in_range}
use Rattle.machine.specs.Opening.{start_of, opened}
use Rattle.machine.specs.Declined.{Action, call_of}
use Rattle.machine.specs.Declined as calls
use Rattle.machine.specs.Machine.{Effect, step, answer_of, output_of}
use Rattle.bench.specs.declared.Repeated.{Repeated}
use Rattle.bench.specs.declared.Round.{Round}
use Rattle.bench.specs.declared.Round.TheVariants as rounds

-- the state after some calls, how many of them were taken (number 0, and a count that the output holds), and the output
pub record Run : Type 0 where
  pub state : State
  pub taken : ℕ
  pub out : List ℕ

-- what the code has of it
abbrev pub repeated : Run → Repeated
repeated r = record { state = r.state; taken = r.taken }

-- no call yet
abbrev pub begun : State → List ℕ → Run
begun s out = record { state = s; taken = 0; out = out }

-- an answer of number 0 whose count the output holds
abbrev pub is_taken : Answer → List ℕ → Bool
is_taken a out = eqb a.number 0 && leb a.written (length out)

-- one more, that came to e
abbrev pub more : Run → Effect → Run
more r e =
    record { state = e.next; taken = cond (is_taken (answer_of e) (output_of e r.out)) (suc r.taken) r.taken; out = output_of e r.out }

-- n calls, of which call k is `act k`
unfoldable pub runs : (ℕ → Action) → Run → ℕ → Run
runs act r zero = r
runs act r (suc n) = more (runs act r n) (step (runs act r n).state (call_of (act n) (runs act r n).out))

-- call k of a round
unfoldable pub round_action : Round → List ℕ → ℕ → Action
-- a client is connected, and sends a line; then the next one
round_action rounds.Setup line k = cond (eqb (k % 2) 0) (calls.Connect (k / 2) (text "bench")) (calls.Line (k / 2) line)
-- client 7 is connected, and disconnected
round_action rounds.Connect line k = cond (eqb (k % 2) 0) (calls.Connect 7 (text "bench")) (calls.Disconnect 7)
-- to k ms
round_action rounds.Tick line k = calls.Tick k
-- 7, for sensor 0, at time 0: it supersedes, since the readings before it are of that time too
round_action rounds.Reading line k = calls.Reading 0 (calls.arrival (Integer (pos 7)) 0)
-- of client 0
round_action rounds.Line line k = calls.Line 0 line

-- the rounds that are measured, by number
unfoldable pub round_of : ℕ → Round
round_of n = cond (eqb n 0) rounds.Connect (cond (eqb n 1) rounds.Tick (cond (eqb n 2) rounds.Reading rounds.Line))

-- the device of a sheet with clients connected, each of which has sent a line
unfoldable pub prepared : List ℕ → ℕ → List ℕ → List ℕ → Run
prepared sheet clients setup out = runs (round_action rounds.Setup setup) (begun (opened (start_of 0 sheet)).state out) (clients * 2)

-- n calls of a round on a device that was prepared
unfoldable pub measured : Round → List ℕ → Run → ℕ → Run
measured round line ready n = runs (round_action round line) (begun ready.state ready.out) n

-- the number of a call that leaves a state in range, else 255
abbrev pub judge : Effect → ℕ
judge e = cond (in_range e.next) e.number 255

-- a call on the device of a sheet that was just opened
abbrev pub on_fresh : List ℕ → Action → List ℕ → Effect
on_fresh sheet action out = step (opened (start_of 0 sheet)).state (call_of action out)

-- client 0 connects to it
abbrev pub greeting : List ℕ → List ℕ → Effect
greeting sheet out = on_fresh sheet (calls.Connect 0 (text "bench")) out

-- the output then
abbrev pub connected_out : List ℕ → List ℕ → List ℕ
connected_out sheet out = output_of (greeting sheet out) out

-- and a call behind that
abbrev pub on_connected : List ℕ → Action → List ℕ → Effect
on_connected sheet action out = step (greeting sheet out).next (call_of action (connected_out sheet out))
