-- What is claimed of the machine beside demand 3.
use Rattle.std.specs.Prelude.{ℕ, ◌≤◌, ◌<◌, ◌≡◌, true, cond, List, [], ◌∷◌, eqb, length}
use Rattle.output.specs.Text.{text}
use Rattle.message.specs.Message.{Message, write}
use Rattle.message.specs.Delivery.{Delivery}
use Rattle.line.specs.Line.{message, parse, WellFormed}
use Rattle.machine.specs.declared.State.{State}
use Rattle.machine.specs.declared.Request.TheVariants.{Halt, Restart}
use Rattle.machine.specs.Places.{Each}
use Rattle.machine.specs.State.{blank}
use Rattle.machine.specs.Range.{in_range}
use Rattle.machine.specs.Sheet.{last_client}
use Rattle.machine.specs.Opening.{Start, opened}
use Rattle.machine.specs.Messages.{level_text}
use Rattle.machine.specs.Requests.{Asks, asked}
use Rattle.machine.specs.Declined.{Connect, Line, Call, call_of, address_fits}
use Rattle.machine.specs.Machine.{step, written}
use Rattle.machine.specs.Reader.{Impossible, news, view_by, no_view, standing}
use Rattle.machine.specs.TwoDevices.{returned, connected_at_end, Device, sheet_of, archive_connected, messages, final}

-- every output of every call is at most 65,536 bytes, and every line at most 2,048 without its end (on a state out of range nothing is sent)
abbrev pub Fits : Type 0
Fits = (s : State) (call : Call)
    → (length (written (step s call)) ≤ 65536) × Each (λ (d : Delivery). length (write d.message) ≤ 2048) (step s call).sent

-- every delivery goes to one of the clients 0–7, so its client is one byte
abbrev pub SentToClients : Type 0
SentToClients = (s : State) (call : Call) → Each (λ (d : Delivery). d.client < 8) (step s call).sent

-- every message that is sent is well-formed, so its line parses to itself
abbrev pub SentReadsBack : Type 0
SentReadsBack = (s : State) (call : Call)
    → Each (λ (d : Delivery). WellFormed d.message × (parse (write d.message) ≡ message d.message)) (step s call).sent

-- and tells nothing that no device of the sheet writes
abbrev pub NeverImpossible : Type 0
NeverImpossible = (s : State) (call : Call)
    → Each (λ (d : Delivery). news s.sheet d.message ≡ Impossible → ⊥) (step s call).sent

-- what the reader makes of an archive's messages is what the state holds that the list ends with
abbrev pub Viewed : Type 0
Viewed = (start : Start) (d : Device) → archive_connected start d ≡ true → (j : ℕ) → j < (sheet_of start).count
    → view_by (sheet_of start) j (messages start d) no_view ≡ standing (sheet_of start) (final start d) d.archive j

-- an opened state is in range, the blank one too; every call keeps a state in range; so number 1 is never given to a state that calls returned
pub record KeptInRange : Type 0 where
  pub blank_in_range : in_range blank ≡ true
  pub opened_in_range : (start : Start) → in_range (opened start).state ≡ true
  pub step_in_range : (s : State) → in_range s ≡ true → (call : Call) → in_range (step s call).next ≡ true
  pub never_one : (start : Start) (h : List Call) (call : Call) → (returned start h call).number ≡ 1 → ⊥

-- the assumptions of demand 3 can be met: on every sheet that opens, a connect that fits leaves its client connected at the end
abbrev pub Connectable : Type 0
Connectable = (start : Start) → (opened start).number ≡ 0 → (c : ℕ) → c ≤ last_client (sheet_of start).profile → (address : List ℕ) → address_fits address ≡ true → (lent : List ℕ) → 65536 ≤ length lent
    → connected_at_end start c (call_of (Connect c address) lent ∷ []) ≡ true

-- document 02, (e): "A fresh device and a restarted one start at warn.", on every sheet that opens and after every restart that is carried out. A sheet
-- that does not open gives "level off" as before, and a halt, carried out or declined, keeps the level
pub record StartsAtWarn : Type 0 where
  pub opened_level : (start : Start) → level_text (opened start).state.level ≡ cond (eqb (opened start).number 0) (text "warn") (text "off")
  pub restarted_level : (s : State) (c : ℕ) (line lent : List ℕ) (m : Message) → asked line ≡ Asks Restart m → (step s (call_of (Line c line) lent)).number ≡ 0
      → level_text (step s (call_of (Line c line) lent)).next.level ≡ text "warn"
  pub halted_level : (s : State) (c : ℕ) (line lent : List ℕ) (m : Message) → asked line ≡ Asks Halt m
      → (step s (call_of (Line c line) lent)).next.level ≡ s.level
