-- What a line of a script comes to on a device, and the line that answers it.
use Rattle.std.specs.Prelude.{ℕ, List, [], ◌∷◌, ◌++◌, take, drop, Some, None, Option}
use Rattle.output.specs.Text.{text}
use Rattle.output.specs.Number.{decimal}
use Rattle.machine.specs.declared.State.{State}
use Rattle.machine.specs.declared.Answer.{Answer}
use Rattle.machine.specs.Opening.{Start, start_of, opened}
use Rattle.machine.specs.Declined.{Action, call_of}
use Rattle.machine.specs.Declined as calls
use Rattle.machine.specs.Machine.{step, answer_of, output_of}
use Rattle.input.specs.Words.{word_at}
use Rattle.script.specs.declared.Command.{Command}
use Rattle.script.specs.declared.Command.TheVariants as commands
use Rattle.script.specs.declared.Performed.{Performed}
use Rattle.in_hex.specs.Hex.{bytes_of, hex_text}
use Rattle.script.specs.Script.{command_of, lent_by}

-- What a command asks of the device.
pub data Asking : Type 0 where
  Nothing : Asking  -- a line that is passed over, or is no call
  Opening : Start → Asking  -- a sheet and a profile
  Calling : Action → Asking  -- a call

-- the bytes of word k
abbrev pub bytes_at : ℕ → List ℕ → List ℕ
bytes_at k line = bytes_of (word_at k line)

-- a line's command, with the bytes that the line has for it; a line that is no call has none
unfoldable pub asking : List ℕ → Option Command → Asking
asking line None = Nothing
asking line (Some commands.Passed) = Nothing
asking line (Some (commands.Open profile)) = Opening (start_of profile (bytes_at 1 line))
asking line (Some (commands.Connect c)) = Calling (calls.Connect c (bytes_at 3 line))
asking line (Some (commands.Disconnect c)) = Calling (calls.Disconnect c)
asking line (Some (commands.Tick t)) = Calling (calls.Tick t)
asking line (Some (commands.Reading j r t)) = Calling (calls.Reading j (calls.arrival r t))
asking line (Some (commands.Log level)) = Calling (calls.Log level (bytes_at 3 line) (bytes_at 4 line))
asking line (Some (commands.Line c)) = Calling (calls.Line c (bytes_at 3 line))

-- an answer without output
abbrev pub quiet : ℕ → State → Answer
quiet n s = record { number = n; written = 0; state = s }

-- what is answered, with this output lent: "`open` replaces the device"
unfoldable pub answered : State → List ℕ → Asking → Answer
answered s lent Nothing = quiet 0 s
answered s lent (Opening start) = quiet (opened start).number (opened start).state
answered s lent (Calling action) = answer_of (step s (call_of action lent))

-- and what the lent output holds then
unfoldable pub left : State → List ℕ → Asking → List ℕ
left s lent Nothing = lent
left s lent (Opening start) = lent
left s lent (Calling action) = output_of (step s (call_of action lent)) lent

-- A line on a device, with an output at hand. "above 65,536 it is lent as 65,536": of the output at hand there is no more.

-- what the line asks, at a clock
abbrev pub asked : ℕ → List ℕ → Asking
asked clock line = asking line (command_of clock line)

-- the part of the output that is lent
abbrev pub lent_of : List ℕ → List ℕ → List ℕ
lent_of line out = take (lent_by line) out

-- its command, and what is answered
unfoldable pub performed : State → List ℕ → List ℕ → Performed
performed s line out = record { command = command_of s.clock line; answer = answered s (lent_of line out) (asked s.clock line) }

-- the output at hand then: past the lent part it is as it was
unfoldable pub output_after : State → List ℕ → List ℕ → List ℕ
output_after s line out = left s (lent_of line out) (asked s.clock line) ++ drop (lent_by line) out

-- "`NUMBER OUTPUT`: the number, and the bytes counted as written in hex"
unfoldable pub answer_line : ℕ → List ℕ → List ℕ
answer_line n bs = decimal n ++ (text " " ++ (hex_text bs ++ (10 ∷ [])))

-- the line that answers a command: none for a line that is passed over, and `error` for one that is no call
unfoldable pub reply : Option Command → ℕ → List ℕ → List ℕ
reply None n bs = text "error" ++ (10 ∷ [])
reply (Some commands.Passed) n bs = []
reply (Some (commands.Open profile)) n bs = answer_line n bs
reply (Some (commands.Connect c)) n bs = answer_line n bs
reply (Some (commands.Disconnect c)) n bs = answer_line n bs
reply (Some (commands.Tick t)) n bs = answer_line n bs
reply (Some (commands.Reading j r t)) n bs = answer_line n bs
reply (Some (commands.Log level)) n bs = answer_line n bs
reply (Some (commands.Line c)) n bs = answer_line n bs
