-- Document 02, (i), "Others on the line": what one client, the dispatcher's archive, is told of the sensors does not depend on the other clients. `a` is the
-- dispatcher's client number, `start` what both devices were opened with. Lists of calls stand first to last; `h` has its latest call first, as in TwoDevices.antt.
use Rattle.std.specs.Prelude.{ℕ, ◌<◌, ◌≡◌, Bool, true, false, not, ◌&&◌, ◌||◌, List, [], ◌∷◌, ◌++◌, map, reverse, eqb, ltb, length}
use Rattle.output.specs.Text.{text, same}
use Rattle.message.specs.Message.{Message, line}
use Rattle.line.specs.Line.{Parse, malformed, message, parse}
use Rattle.machine.specs.declared.State.{State}
use Rattle.machine.specs.Places.{only}
use Rattle.machine.specs.Opening.{Start}
use Rattle.machine.specs.State.{client_of, pair_of}
use Rattle.machine.specs.Declined.{Action, Connect, Disconnect, Tick, Reading, Log, Line, Call}
use Rattle.machine.specs.Machine.{step}
use Rattle.machine.specs.TwoDevices.{after, returned_zero, packets_of, ends_all, is_request, lines_to, sent_to, without_end}

-- The two lists.

-- "the same dispatcher's calls (all that name its client number), readings and ticks"; a log entry names no client
abbrev pub is_shared : ℕ → Action → Bool
is_shared a (Connect c address) = eqb c a
is_shared a (Disconnect c) = eqb c a
is_shared a (Tick t) = true
is_shared a (Reading j r) = true
is_shared a (Log level logger said) = false
is_shared a (Line c line) = eqb c a

-- these calls of a list, "in the same order"
abbrev pub shared_in : ℕ → List Call → List Call
shared_in a calls = only (λ (call : Call). is_shared a call.action) calls

-- what must be the same of such a call: what it asks, and whether its output is too short, row 2; what the output held may differ
pub record SharedCall : Type 0 where
  pub action : Action
  pub short : Bool

-- of a call
abbrev pub shared_of : Call → SharedCall
shared_of call = record { action = call.action; short = ltb (length call.lent) 65536 }

-- of all these calls of a list
abbrev pub shared_calls : ℕ → List Call → List SharedCall
shared_calls a calls = map shared_of (shared_in a calls)

-- "No other client .. has a halt or restart accepted": whether one has, by what is "answered `ok`" (`ends_all`)
unfoldable pub others_end : Start → ℕ → List Call → Bool
others_end start a [] = false
others_end start a (call ∷ h) = (not (is_shared a call.action) && ends_all call.action (packets_of start h call)) || others_end start a h

-- "Two lists of calls from fresh devices of one sheet", and of one profile (document 02, (m)); "Connections, requests and log entries of the others may differ": nothing else is asked of them
pub record OneDispatcher (start : Start) (a : ℕ) (one two : List Call) : Type 0 where
  pub same_calls : shared_calls a one ≡ shared_calls a two
  pub none_ends : others_end start a (reverse one) ≡ false
  pub none_ends_there : others_end start a (reverse two) ≡ false

-- The dispatcher's lines.

-- all that are delivered to it over the list, in order
unfoldable pub lines_ever : Start → ℕ → List Call → List (List ℕ)
lines_ever start a [] = []
lines_ever start a (call ∷ h) = lines_ever start a h ++ lines_to a (packets_of start h call)

-- a line whose message has a name that passes the test
abbrev pub is_named_as : (List ℕ → Bool) → Parse → Bool
is_named_as is malformed = false
is_named_as is (message m) = is m.name

-- such lines among all of a list
abbrev pub lines_named : (List ℕ → Bool) → Start → ℕ → List Call → List (List ℕ)
lines_named is start a calls = only (λ l. is_named_as is (parse (without_end l))) (lines_ever start a (reverse calls))

-- "the dispatcher's `sensor-status` lines" and "its replies and informs to `sensor-sampling`, `sensor-value` and `sensor-list`", which have the request's name
abbrev pub of_sensors : List ℕ → Bool
of_sensors name =
    same name (text "sensor-status")
    || (same name (text "sensor-sampling") || (same name (text "sensor-value") || same name (text "sensor-list")))

-- the request: "Then the dispatcher's `sensor-status` lines are equal, as are its replies and informs", all as one sequence, byte for byte
abbrev pub OthersApart : Type 0
OthersApart = (start : Start) (a : ℕ) (one two : List Call) → OneDispatcher start a one two
    → lines_named of_sensors start a one ≡ lines_named of_sensors start a two

-- How far the others reach.

-- the names of the lines in which others show: `#log`, `#client-connected`, and what answers `client-list` and `log-level`
abbrev pub of_others : List ℕ → Bool
of_others name =
    same name (text "log")
    || (same name (text "client-connected") || (same name (text "client-list") || same name (text "log-level")))

-- what two states have alike for client a
pub record AlikeFor (a : ℕ) (s t : State) : Type 0 where
  pub sheet_same : s.sheet ≡ t.sheet
  pub clock_same : s.clock ≡ t.clock
  pub halted_same : s.halted ≡ t.halted
  pub readings_same : s.readings ≡ t.readings
  pub client_same : client_of s a ≡ client_of t a
  pub pair_same : (j : ℕ) → j < 32 → pair_of s a j ≡ pair_of t a j

-- all messages that are sent to it over the list, in order
unfoldable pub sent_ever : Start → ℕ → List Call → List Message
sent_ever start a [] = []
sent_ever start a (call ∷ h) = sent_ever start a h ++ sent_to a (step (after start h) call).sent

-- `same_lines`: all the dispatcher's lines are equal but those in which others show, as one sequence.
-- `same_state`: the states that the two lists end with are alike for it; and so after each shared call, since two such lists that are cut there are two
-- such lists.
-- `by_name`: the lines of a name are those of the messages that were sent with that name, none more and none less.
pub record OthersReach : Type 0 where
  pub same_lines : (start : Start) (a : ℕ) (one two : List Call) → OneDispatcher start a one two
      → lines_named (λ name. not (of_others name)) start a one ≡ lines_named (λ name. not (of_others name)) start a two
  pub same_state : (start : Start) (a : ℕ) → a < 8 → (one two : List Call) → OneDispatcher start a one two
      → AlikeFor a (after start (reverse one)) (after start (reverse two))
  pub by_name : (is : List ℕ → Bool) (start : Start) (a : ℕ) (calls : List Call)
      → lines_named is start a calls ≡ map line (only (λ (m : Message). is m.name) (sent_ever start a (reverse calls)))

-- Lists that differ meet the assumption.

-- a request to halt or to restart
abbrev pub asks_end : Action → Bool
asks_end (Connect c address) = false
asks_end (Disconnect c) = false
asks_end (Tick t) = false
asks_end (Reading j r) = false
asks_end (Log level logger said) = false
asks_end (Line c line) = is_request (text "halt") (parse line) || is_request (text "restart") (parse line)

-- `accepted`: what is "answered `ok`" is what is accepted, a request to halt or to restart that returned 0.
-- `fresh`, `shared_call`, `others_call`, `either_way`: two lists without calls; a shared call more in both; any other call more in one of them, but for such a
-- request that returned 0.
-- `alone`: a list, and that list without all calls of the others, as if the dispatcher were alone on the line.
pub record OthersMet : Type 0 where
  pub accepted : (start : Start) (h : List Call) (call : Call)
      → ends_all call.action (packets_of start h call) ≡ (returned_zero start h call && asks_end call.action)
  pub fresh : (start : Start) (a : ℕ) → OneDispatcher start a [] []
  pub shared_call : (start : Start) (a : ℕ) (one two : List Call) → OneDispatcher start a one two → (call other : Call)
      → is_shared a call.action ≡ true → shared_of call ≡ shared_of other → OneDispatcher start a (one ++ (call ∷ [])) (two ++ (other ∷ []))
  pub others_call : (start : Start) (a : ℕ) (one two : List Call) → OneDispatcher start a one two → (call : Call)
      → is_shared a call.action ≡ false → (returned_zero start (reverse one) call && asks_end call.action) ≡ false
      → OneDispatcher start a (one ++ (call ∷ [])) two
  pub either_way : (start : Start) (a : ℕ) (one two : List Call) → OneDispatcher start a one two → OneDispatcher start a two one
  pub alone : (start : Start) (a : ℕ) (calls : List Call) → others_end start a (reverse calls) ≡ false
      → OneDispatcher start a calls (shared_in a calls)
