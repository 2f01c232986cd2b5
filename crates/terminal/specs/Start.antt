-- The calls with which the console begins, and what they send client 0. That the program makes them and prints those lines is not said here.
use Rattle.std.specs.Prelude.{ℕ, ◌≤◌, ◌≡◌, List, [], ◌∷◌, ◌++◌, length}
use Rattle.output.specs.Text.{text}
use Rattle.message.specs.Message.{line}
use Rattle.machine.specs.Opening.{Start, start_of, opened}
use Rattle.machine.specs.Messages.{version_connect, device_args, level_text}
use Rattle.machine.specs.Declined.{Action, Connect, Line, Call, call_of}
use Rattle.machine.specs.TwoDevices.{after, sheet_of, lines_of}

-- document 01: "connects client 0 as `console`"
abbrev pub connecting : Action
connecting = Connect 0 (text "console")

-- document 02, (e): "The console relied on info, so it sends `?log-level info` after connecting", as client 0's line
abbrev pub asking : Action
asking = Line 0 (text "?log-level info")

-- these two calls, each lent an output, the latest first
abbrev pub first_calls : List ℕ → List ℕ → List Call
first_calls lent next = call_of asking next ∷ call_of connecting lent ∷ []

-- a text with its byte 10
abbrev pub ended : List ℕ → List ℕ
ended t = t ++ (10 ∷ [])

-- what client 0 has been sent after some calls, and the log level: "the printed session gains `!log-level ok info` as its third line"
pub record Begun (start : Start) (h : List Call) : Type 0 where
  pub three_lines : lines_of start 0 h
      ≡ ended (text "#version-connect katcp-protocol 5.1-MIB") ∷ line (version_connect (device_args (sheet_of start))) ∷ ended (text "!log-level ok info") ∷ []
  pub at_info : level_text (after start h).level ≡ text "info"

-- so it stands after the two calls, on every sheet that opens: under profile 0, document 02, (m), "0 for the present behaviour"
abbrev pub Begins : Type 0
Begins = (bytes lent next : List ℕ) → (opened (start_of 0 bytes)).number ≡ 0 → 65536 ≤ length lent → 65536 ≤ length next → Begun (start_of 0 bytes) (first_calls lent next)
