-- Document 02, (m), "Small units with one connection": of opening, of one call, and over whole lists of calls.
use Rattle.std.specs.Prelude.{ℕ, ◌≤◌, ◌<◌, ◌≡◌, true, false, cond, List, [], ◌∷◌, ◌++◌, map, eqb, length, Option, None, Some}
use Rattle.output.specs.Text.{text}
use Rattle.message.specs.Message.{Message, line}
use Rattle.message.specs.Delivery.{Delivery, to}
use Rattle.machine.specs.declared.State.{State}
use Rattle.machine.specs.declared.Request.TheVariants.{ClientList, Help, VersionList}
use Rattle.machine.specs.Places.{Each}
use Rattle.machine.specs.State.{connected, pair_of, no_subscription, with_client, client_at, blank}
use Rattle.machine.specs.Range.{in_range}
use Rattle.machine.specs.Opening.{Start, start_of, opened}
use Rattle.machine.specs.Messages.{version_connect, protocol_args, device_args, disconnect, help_inform, version_inform}
use Rattle.machine.specs.Declined.{Action, Connect, Disconnect, Tick, Reading, Log, Line, Call, call_of, address_fits}
use Rattle.machine.specs.Machine.{Effect, step}
use Rattle.machine.specs.TwoDevices.{after, sheet_of, packets_of, connects, connected_at_end, lines_to, lines_of}
use Rattle.machine.specs.SeveralNames.{Received, reply_alone, informed}

-- the client that a call names
abbrev pub client_named : Action → Option ℕ
client_named (Connect c address) = Some c
client_named (Disconnect c) = Some c
client_named (Tick t) = None
client_named (Reading j r) = None
client_named (Log level logger said) = None
client_named (Line c line) = Some c

-- a call on a unit of profile 1 that no row before 5 declines
pub record OnSingle (s : State) (lent : List ℕ) : Type 0 where
  pub in_range_lem : in_range s ≡ true
  pub room : 65536 ≤ length lent
  pub running : s.halted ≡ false
  pub single_client : s.sheet.profile ≡ 1

-- declined: nothing is sent, and the state is left
abbrev pub silently : State → ℕ → Effect
silently s n = record { number = n; sent = []; next = s }

-- "Profile 1 writes `5.1-IB`"
abbrev pub single_protocol : List (List ℕ)
single_protocol = text "katcp-protocol" ∷ text "5.1-IB" ∷ []

-- client 0 of that address, connected: what it is told, and the state in which no strategy and no report is left of a client before it
abbrev pub connected_as : State → List ℕ → List Delivery → Effect
connected_as s address before = record {
  number = 0;
  sent = before ++ (to 0 (version_connect single_protocol) ∷ to 0 (version_connect (device_args s.sheet)) ∷ []);
  next = with_client s 0 (client_at address);
}

-- "`#disconnect` with `New client connected from`, a space and the newcomer's address as one argument"
abbrev pub gone : List ℕ → Message
gone address = disconnect (text "New client connected from " ++ address)

-- "`help` omits it"
abbrev pub single_requests : List (List ℕ)
single_requests =
    text "halt"
    ∷ text "help"
    ∷ text "log-level"
    ∷ text "restart"
    ∷ text "sensor-list"
    ∷ text "sensor-sampling"
    ∷ text "sensor-value"
    ∷ text "version-list"
    ∷ text "watchdog"
    ∷ []

-- `neither`: "31, with the blank state as at 4, when the profile is neither, before 4": whatever the bytes.
-- `either`: a sheet opens under both profiles or under none.
-- `profile_kept`: the profile is that of opening after every list of calls, halts and restarts among them; where nothing was opened it is 0.
-- `client_zero`: "has client 0 only".
-- `served_zero`: and every line goes to it.
-- `above_zero`: "32 when a client above 0 is named under profile 1, in 5's place", before all that follows: it sends nothing, whatever the line.
-- `joins`, `displaces`: a connect of client 0, where none is connected and "while connected"; "6 is not given there", "No `client-connected` is sent".
-- `forgets`: none of its pairs is left of the client before it.
-- `stays`: an address that does not fit gives 7, and leaves the client that is there.
-- `client-list`: "gets 14", whatever its arguments. `help_on_it`: 23. `help`: it lists the others, and counts them. `version-list`: "writes `5.1-IB`".
-- `begins`: under either profile a connected archive's lines begin with the two `#version-connect` lines of its connect.
-- `ends`: the lines of a connect that displaces are the old client's `#disconnect`, and then those of the newcomer.
pub record SingleClient : Type 0 where
  pub neither : (profile : ℕ) (bytes : List ℕ) → 1 < profile → opened (start_of profile bytes) ≡ record { number = 31; state = blank }
  pub either : (bytes : List ℕ) → (opened (start_of 1 bytes)).number ≡ (opened (start_of 0 bytes)).number
  pub profile_kept : (start : Start) (h : List Call) → (after start h).sheet.profile ≡ cond (eqb (opened start).number 0) start.profile 0
  pub client_zero : (start : Start) (h : List Call) (c : ℕ) → (after start h).sheet.profile ≡ 1 → c < 8 → connected (after start h) c ≡ true → c ≡ 0
  pub served_zero : (s : State) (call : Call) → s.sheet.profile ≡ 1 → Each (λ (d : Delivery). d.client ≡ 0) (step s call).sent
  pub above_zero : (s : State) (call : Call) (c : ℕ) → OnSingle s call.lent → client_named call.action ≡ Some c → 0 < c → step s call ≡ silently s 32
  pub joins : (s : State) (address lent : List ℕ) → OnSingle s lent → connected s 0 ≡ false → address_fits address ≡ true
      → step s (call_of (Connect 0 address) lent) ≡ connected_as s address []
  pub displaces : (s : State) (address lent : List ℕ) → OnSingle s lent → connected s 0 ≡ true → address_fits address ≡ true
      → step s (call_of (Connect 0 address) lent) ≡ connected_as s address (to 0 (gone address) ∷ [])
  pub forgets : (s : State) (address : List ℕ) (j : ℕ) → j < 32 → pair_of (with_client s 0 (client_at address)) 0 j ≡ no_subscription
  pub stays : (s : State) (address lent : List ℕ) → OnSingle s lent → address_fits address ≡ false → step s (call_of (Connect 0 address) lent) ≡ silently s 7
  pub client_list : (s : State) (c : ℕ) (line lent : List ℕ) (m : Message) → Received s c line lent ClientList m → s.sheet.profile ≡ 1
      → step s (call_of (Line c line) lent) ≡ reply_alone s c m 14
  pub help_on_it : (s : State) (c : ℕ) (line lent : List ℕ) (m : Message) → Received s c line lent Help m → s.sheet.profile ≡ 1 → m.args ≡ text "client-list" ∷ []
      → step s (call_of (Line c line) lent) ≡ reply_alone s c m 23
  pub help : (s : State) (c : ℕ) (line lent : List ℕ) (m : Message) → Received s c line lent Help m → s.sheet.profile ≡ 1 → m.args ≡ []
      → step s (call_of (Line c line) lent) ≡ informed s c m (map (help_inform m.id) single_requests)
  pub version_list : (s : State) (c : ℕ) (line lent : List ℕ) (m : Message) → Received s c line lent VersionList m → s.sheet.profile ≡ 1 → m.args ≡ []
      → step s (call_of (Line c line) lent) ≡ informed s c m (map (version_inform m.id) (single_protocol ∷ device_args s.sheet ∷ []))
  pub begins : (start : Start) (a : ℕ) (h : List Call) → connected_at_end start a h ≡ true
      → (rest : List (List ℕ)) × (lines_of start a h ≡ line (version_connect (protocol_args start.profile)) ∷ line (version_connect (device_args (sheet_of start))) ∷ rest)
  pub ends : (start : Start) (address lent : List ℕ) (h : List Call) → (after start h).sheet.profile ≡ 1 → connected_at_end start 0 h ≡ true
      → connects start 0 h (call_of (Connect 0 address) lent) ≡ true
      → lines_to 0 (packets_of start h (call_of (Connect 0 address) lent)) ≡ line (gone address) ∷ lines_of start 0 (call_of (Connect 0 address) lent ∷ h)
