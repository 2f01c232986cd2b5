-- What a line comes to that rows 1 to 6 let through.
use Rattle.std.specs.Prelude.{ℕ, zero, suc, ◌≡◌, cond, ◌||◌, List, [], ◌∷◌, eqb}
use Prim.Native.Char.{code}
use Rattle.output.specs.Text.{text}
use Rattle.output.specs.Output.{output}
use Rattle.message.specs.Message.{Message, message}
use Rattle.message.specs.Delivery.{to, Sent}
use Rattle.machine.specs.declared.Strategy.{Strategy}
use Rattle.machine.specs.declared.State.{State}
use Rattle.machine.specs.declared.Request.{Request}
use Rattle.machine.specs.declared.Answer.{Answer}
use Rattle.machine.specs.Sheet.{sensor_of}
use Rattle.machine.specs.State.{pair_of, with_pairs}
use Rattle.machine.specs.Messages.{log_entry, sampling_reply, refusal_reply}
use Rattle.machine.specs.Requests.{Asked, argument, sampled_pairs, sampled_sends, sends_only, answer}
use Rattle.machine.specs.Declined.{line_declined, line_refusal}
use Rattle.machine.specs.Machine.{Effect, done, line_work}
use Rattle.request.specs.Reading.{message_of}

-- by the number of the row that declines it
unfoldable pub line_outcome : State → ℕ → Asked → ℕ → Effect
line_outcome s c a zero = done (line_work s.sheet s c a)
line_outcome s c a (suc n) = record { number = suc n; sent = line_refusal s.clock c (suc n) a; next = s }

-- by what it asks
unfoldable pub line_effect : State → ℕ → Asked → Effect
line_effect s c a = line_outcome s c a (line_declined s.sheet a)

-- a request that is carried out
abbrev pub request_effect : State → ℕ → Request → List ℕ → Effect
request_effect s c r line = done (answer s.sheet s c r (message_of line))

-- a `sensor-sampling` of that name and id, and of these names
abbrev pub naming : List ℕ → ℕ → List ℕ → Message
naming name id names = message (code "?") name id (names ∷ [])

-- a query of one sensor: its strategy, and no report
abbrev pub query_effect : State → ℕ → Message → ℕ → Effect
query_effect s c m j = done (sends_only s (to c (sampling_reply m (argument m 0) (sensor_of s.sheet j) (pair_of s c j).strategy) ∷ []))

-- a strategy set for the sensors at places
abbrev pub setting_effect : State → ℕ → Message → List ℕ → Strategy → Effect
setting_effect s c m js st = done (record { sent = sampled_sends s.sheet s c m js st; next = with_pairs s (sampled_pairs s c js st) })

-- the place of a row's code among `invalid` and `fail`
abbrev pub code_place : ℕ → ℕ
code_place n = cond (eqb n 16 || (eqb n 18 || eqb n 23)) 1 0

-- a line that is refused with a log entry
abbrev pub complained : State → ℕ → ℕ → List ℕ → Effect
complained s c n why = record { number = n; sent = to c (log_entry 2 s.clock (text "katcp") why) ∷ []; next = s }

-- a request that is refused with a reply
abbrev pub refused_with : State → ℕ → Message → ℕ → Effect
refused_with s c m n = record { number = n; sent = to c (refusal_reply m n) ∷ []; next = s }

-- an answer gives an effect: its number, its state, and its deliveries from the start of the output
pub record Gives (e : Effect) (lent : List ℕ) (r : Answer) (out : List ℕ) : Type 0 where
  pub number : r.number ≡ e.number
  pub state : r.state ≡ e.next
  pub sent : Sent (output lent 0) e.sent (output out r.written)
