-- The message of a line that was read.
use Rattle.std.specs.Prelude.{ℕ, ◌<◌, ◌≡◌, true, List, [], Some}
use Rattle.message.specs.Message.{Message}
use Rattle.message.specs.Message as messages
use Rattle.line.specs.declared.Header.{Header}
use Rattle.line.specs.Line.{Parse, malformed, message, parse}
use Rattle.line.specs.Answer.{answer}
use Rattle.machine.specs.declared.State.{State}
use Rattle.machine.specs.declared.Request.{Request}
use Rattle.machine.specs.Range.{in_range}
use Rattle.machine.specs.Declined.{arguments_declined}

-- the message that was read, an empty one where there is none
abbrev pub message_in : Parse → Message
message_in malformed = messages.message 0 [] 0 []
message_in (message m) = m

-- the message of a line
unfoldable pub message_of : List ℕ → Message
message_of line = message_in (parse line)

-- the line was read, as a message of these numbers
abbrev pub IsRead : List ℕ → Header → Type 0
IsRead line head = answer (parse line) ≡ Some head

-- a line that was read, from one of the clients, in a state in range
pub record Heard (s : State) (c : ℕ) (line : List ℕ) (head : Header) : Type 0 where
  pub in_range_lem : in_range s ≡ true
  pub client : c < 8
  pub read : IsRead line head

-- a request whose arguments no row declines
pub record Ready (s : State) (c : ℕ) (r : Request) (line : List ℕ) (head : Header) : Type 0 where
  pub heard : Heard s c line head
  pub fits : arguments_declined s.sheet r (message_of line) ≡ 0
