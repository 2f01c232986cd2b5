-- A call is carried out or declined; what is known of one that is carried out; a reading that supersedes, and an older one; what a line asks.
use Prim.Native.Nat.{ℕ, zero, suc, ◌≤◌, ◌<◌}
use Prim.Native.Char.{code}
use native.Mathlib.Omega.{arith}
use mathlib.Core.Path.{◌≡◌, refl, ap, sym, ◌∙◌, subst}
use mathlib.Core.Bool.{Bool, true, false, cond, not, ◌||◌, true≢false}
use mathlib.Core.List.{List, []}
use Rattle.std.specs.Prelude.{Option, None, Some}
use lib.Dec.{eqb, ltb}
use lib.ListN.{length}
use borrow.Author.Tests.{leb-false, ltb-false, le-ltb, eqb-true, not-false}
use Rattle.output.specs.Text.{text, same}
use Rattle.output.proofs.TextLaws.{same_true}
use Rattle.message.specs.Message.{Message}
use Rattle.message.specs.Delivery.{Delivery, to}
use Rattle.line.specs.Line.{Parse, malformed, message, kind_byte, parse, blank_line}
use Rattle.line.proofs.ParsedHead.{parsed_head, blank_parse}
use Rattle.value.specs.Reading.{sample_of}
use Rattle.value.specs.Answer.{sampled_number}
use Rattle.machine.specs.declared.Sheet.{Sheet}
use Rattle.machine.specs.declared.State.{State}
use Rattle.machine.specs.declared.Request.{Request}
use Rattle.machine.specs.declared.Request.TheVariants.{ClientList, Halt, Help, LogLevel, Restart, SensorList, SensorSampling, SensorValue, VersionList, Watchdog}
use Rattle.machine.specs.Sheet.{single, last_client, sensor_of, not_on_sheet}
use Rattle.machine.specs.Range.{in_range}
use Rattle.machine.specs.Requests.{Asked, Nothing, NotMessage, Reply, Unknown, Asks, asked, asked_by, asked_for, request_named, hidden, sends_only, answer}
use Rattle.machine.specs.Declined.{Arrival, Call, rows_behind, above_last, client_declined, reading_declined, action_declined, declined, Action, Connect, Disconnect, Tick, Reading, Log, Line, count_fits, arguments_declined, line_declined}
use Rattle.machine.specs.Machine.{Effect, done, left, outcome, greeting, connect_sends, reading_stored, reading_work, perform, step, line_work}
use Rattle.machine.proofs.TestLaws.{passed, or_true, not_none, cond_cases}
use Rattle.machine.specs.State.{stored_of, supersedes, connected}
use Rattle.machine.specs.Report.{Work}
use Rattle.machine.specs.TwoDevices.{is_connect}
use Rattle.machine.specs.Places.{Each, one_if}
use Rattle.machine.specs.Messages.{protocol_args, device_args, version_connect, client_connected, displaced, to_others}
use Rattle.machine.proofs.PlacesLaws.{each_append, each_one}

-- every fact of a call splits here
pub by_cases : (P : Effect → Type 0) (s : State) (call : Call)
    → (declined s.sheet s call ≡ 0 → P (done (perform s.sheet s call.action)))
    → ((n : ℕ) → declined s.sheet s call ≡ suc n → P (left s (suc n) call.action))
    → P (step s call)
unfolding outcome
by_cases P s call yes-case no-case = go (declined s.sheet s call) refl
  where
    go : (n : ℕ) → declined s.sheet s call ≡ n → P (outcome s.sheet s call.action n)
    go zero e = yes-case e
    go (suc n) e = no-case n e

-- a call that nothing declines: a state in range, an output of the size, a device that is not halted, and its own rows
pub record Accepted (s : State) (call : Call) : Type 0 where
  pub in_range_lem : in_range s ≡ true
  pub room : 65536 ≤ length call.lent
  pub running : s.halted ≡ false
  pub fits : action_declined s.sheet s call.action ≡ 0

pub accepted : (s : State) (call : Call) → declined s.sheet s call ≡ 0 → Accepted s call
unfolding declined
accepted s call e =
    let a = passed (not (in_range s)) 1 _ (omega arith) e in
    let b = passed (ltb (length call.lent) 65536) 2 _ (omega arith) a.1 in
    let c = passed s.halted 3 (action_declined s.sheet s call.action) (omega arith) b.1 in
    record { in_range_lem = not-false (in_range s) a.0; room = ltb-false (length call.lent) 65536 b.0; running = c.0; fits = c.1 }

-- behind rows 1, 2 and 3 stand the call's own
pub own_rows : (s : State) (call : Call) → in_range s ≡ true → 65536 ≤ length call.lent → s.halted ≡ false
    → declined s.sheet s call ≡ action_declined s.sheet s call.action
unfolding declined
own_rows s call i r h = rw (i, le-ltb (length call.lent) 65536 r, h)

-- the other way: such a call is carried out
passes : (s : State) (call : Call) → Accepted s call → declined s.sheet s call ≡ 0
passes s call a = own_rows s call a.in_range_lem a.room a.running ∙ a.fits

pub carried_out : (s : State) (call : Call) → Accepted s call → step s call ≡ done (perform s.sheet s call.action)
unfolding outcome
carried_out s call a = rw (passes s call a)

-- a call that is declined with a number above 1: the state is in range too
pub declined_in_range : (s : State) (call : Call) (n : ℕ) → declined s.sheet s call ≡ suc n → 1 ≤ n → in_range s ≡ true
unfolding declined
declined_in_range s call n e h = go (in_range s) refl
  where
    go : (b : Bool) → in_range s ≡ b → in_range s ≡ true
    go true q = q
    go false q = absurd (omega (arith, one q))
      where
        one : in_range s ≡ false → 1 ≡ suc n
        one q = rw (← e) (ap (λ b. cond (not b) 1 (cond (ltb (length call.lent) 65536) 2 (cond s.halted 3 (action_declined s.sheet s call.action)))) (sym q))

-- rows 5 and 6 passed
pub client_last : (profile : ℕ) (refused : Bool) (c rest : ℕ) → client_declined profile refused c rest ≡ 0 → (c ≤ last_client profile) × ((refused ≡ false) × (rest ≡ 0))
unfolding client_declined
client_last profile refused c rest e =
    let a = passed (ltb (last_client profile) c) (above_last profile) _ (some_row (single profile)) e in
    let b = passed refused 6 rest (omega arith) a.1 in
    (ltb-false (last_client profile) c a.0, (b.0, b.1))
  where
    some_row : (b : Bool) → 0 < cond b 32 5
    some_row true = omega arith
    some_row false = omega arith

-- "clients 0–7"
pub last_below : (profile : ℕ) → last_client profile < 8
last_below profile = go (single profile)
  where
    go : (b : Bool) → cond b 0 7 < 8
    go true = omega arith
    go false = omega arith

pub client_fits : (profile : ℕ) (refused : Bool) (c rest : ℕ) → client_declined profile refused c rest ≡ 0 → (c < 8) × ((refused ≡ false) × (rest ≡ 0))
client_fits profile refused c rest e = let a = client_last profile refused c rest e in (omega (arith, a.0, last_below profile), a.1)

pub rows_behind_lem : (before rest : ℕ) → rows_behind before rest ≡ 0 → (before ≡ 0) × (rest ≡ 0)
rows_behind_lem zero rest e = (refl, e)
rows_behind_lem (suc n) rest e = absurd (omega (arith, rw (not_none n) at e))

-- a reading that nothing declines: its sensor is on the sheet, it fits the type, and its time is not above the clock
pub record ReadingFits (s : State) (j : ℕ) (r : Arrival) : Type 0 where
  pub on_sheet : j < s.sheet.count
  pub fit : sampled_number (sample_of (sensor_of s.sheet j).kind (sensor_of s.sheet j).option_count r.reading) ≡ 0
  pub not_ahead : r.time ≤ s.clock

pub reading_fits : (s : State) (j : ℕ) (r : Arrival) → action_declined s.sheet s (Reading j r) ≡ 0 → ReadingFits s j r
unfolding action_declined reading_declined
reading_fits s j r e =
    let a = passed (not_on_sheet s.sheet j) 9 _ (omega arith) e in
    let b = rows_behind_lem (sampled_number (sample_of (sensor_of s.sheet j).kind (sensor_of s.sheet j).option_count r.reading)) _ a.1 in
    record { on_sheet = leb-false s.sheet.count j a.0; fit = b.0; not_ahead = ltb-false s.clock r.time (passed (ltb s.clock r.time) 26 0 (omega arith) b.1).0 }

-- it supersedes the stored one, or is older
pub by_superseding : (P : Work → Type 0) (sheet : Sheet) (s : State) (j : ℕ) (r : Arrival) → (supersedes r.time (stored_of s j) ≡ true → P (reading_stored sheet s j r))
    → (supersedes r.time (stored_of s j) ≡ false → P (sends_only s [])) → P (perform sheet s (Reading j r))
unfolding perform reading_work
by_superseding P sheet s j r newer older = go (supersedes r.time (stored_of s j)) refl
  where
    go : (b : Bool) → supersedes r.time (stored_of s j) ≡ b → P (cond b (reading_stored sheet s j r) (sends_only s []))
    go true e = newer e
    go false e = older e

-- each delivery of a connect
pub connect_each : (P : Delivery → Type 0) (sheet : Sheet) (s : State) (c : ℕ) (address : List ℕ) → (single sheet.profile ≡ true → connected s c ≡ true → P (to c (displaced address)))
    → P (to c (version_connect (protocol_args sheet.profile))) → P (to c (version_connect (device_args sheet))) → Each P (to_others s c (client_connected address)) → Each P (connect_sends sheet s c address)
unfolding connect_sends
connect_each P sheet s c address gone protocol device others = cond_cases (Each P) (single sheet.profile) _ _
    (λ e. each_append P (one_if (connected s c) (to c (displaced address))) (greeting sheet c) (each_one P (connected s c) (to c (displaced address)) (gone e)) (protocol, (device, tt)))
    (λ _. (protocol, (device, others)))

-- the name of a request in the table
abbrev pub name_for : Request → List ℕ
name_for ClientList = text "client-list"
name_for Halt = text "halt"
name_for Help = text "help"
name_for LogLevel = text "log-level"
name_for Restart = text "restart"
name_for SensorList = text "sensor-list"
name_for SensorSampling = text "sensor-sampling"
name_for SensorValue = text "sensor-value"
name_for VersionList = text "version-list"
name_for Watchdog = text "watchdog"

abbrev Named : List ℕ → Option Request → Type 0
Named name None = Unit
Named name (Some r) = name ≡ name_for r

row_named : (name : List ℕ) (t : List ℕ) (r : Request) (rest : Option Request) → name_for r ≡ t → Named name rest → Named name (cond (same t name) (Some r) rest)
row_named name t r rest e h = go (same t name) refl
  where
    go : (b : Bool) → same t name ≡ b → Named name (cond b (Some r) rest)
    go true q = sym (e ∙ same_true t name q)
    go false q = h

-- the table finds a request by its own name alone
named : (name : List ℕ) → Named name (request_named name)
unfolding request_named
named name =
    row_named name (text "client-list") ClientList _ refl
    (row_named name (text "halt") Halt _ refl
    (row_named name (text "help") Help _ refl
    (row_named name (text "log-level") LogLevel _ refl
    (row_named name (text "restart") Restart _ refl
    (row_named name (text "sensor-list") SensorList _ refl
    (row_named name (text "sensor-sampling") SensorSampling _ refl
    (row_named name (text "sensor-value") SensorValue _ refl
    (row_named name (text "version-list") VersionList _ refl
    (row_named name (text "watchdog") Watchdog None refl tt)))))))))

pub request_name : (name : List ℕ) (r : Request) → request_named name ≡ Some r → name ≡ name_for r
request_name name r e = subst (Named name) e (named name)

pub request_found : (r : Request) → request_named (name_for r) ≡ Some r
unfolding request_named
request_found ClientList = refl
request_found Halt = refl
request_found Help = refl
request_found LogLevel = refl
request_found Restart = refl
request_found SensorList = refl
request_found SensorSampling = refl
request_found SensorValue = refl
request_found VersionList = refl
request_found Watchdog = refl

-- what a line that asks a request is
pub record IsRequest (line : List ℕ) (r : Request) (m : Message) : Type 0 where
  pub parsed : parse line ≡ message m
  pub asks : m.kind ≡ code "?"
  pub named : m.name ≡ name_for r

-- what a line that asks for an unknown one is
pub record IsUnknown (line : List ℕ) (m : Message) : Type 0 where
  pub parsed : parse line ≡ message m
  pub asks : m.kind ≡ code "?"

abbrev Meant : List ℕ → Asked → Type 0
Meant line Nothing = Unit
Meant line NotMessage = Unit
Meant line Reply = Unit
Meant line (Unknown m) = IsUnknown line m
Meant line (Asks r m) = IsRequest line r m

pub other_kind : (k : ℕ) → kind_byte k ≡ true → eqb k (code "#") ≡ false → eqb k (code "!") ≡ false → k ≡ code "?"
unfolding kind_byte
other_kind k h p q = or_true (k ≡ code "?") (eqb k (code "?")) (eqb k (code "!") || eqb k (code "#")) h (λ e. eqb-true k (code "?") e)
    (λ e. absurd (true≢false (sym e ∙ rw (p, q))))

meant : (line : List ℕ) → Meant line (asked line)
unfolding asked
meant line = go (blank_line line) (parse line) refl
  where
    by_name : (m : Message) → parse line ≡ message m → m.kind ≡ code "?" → (o : Option Request) → Named m.name o → Meant line (asked_for o m)
    by_name m e k None n = record { parsed = e; asks = k }
    by_name m e k (Some r) n = record { parsed = e; asks = k; named = n }

    by_kind : (m : Message) → parse line ≡ message m → (a b : Bool) → eqb m.kind (code "#") ≡ a → eqb m.kind (code "!") ≡ b
        → Meant line (cond a Nothing (cond b Reply (asked_for (request_named m.name) m)))
    by_kind m e true b p q = tt
    by_kind m e false true p q = tt
    by_kind m e false false p q = by_name m e (other_kind m.kind (parsed_head line m e).kind p q) (request_named m.name) (named m.name)

    go : (b : Bool) (p : Parse) → parse line ≡ p → Meant line (cond b Nothing (asked_by p))
    go true p e = tt
    go false malformed e = tt
    go false (message m) e = by_kind m e (eqb m.kind (code "#")) (eqb m.kind (code "!")) refl refl

pub asks_is : (line : List ℕ) (r : Request) (m : Message) → asked line ≡ Asks r m → IsRequest line r m
asks_is line r m e = subst (Meant line) e (meant line)

pub unknown_is : (line : List ℕ) (m : Message) → asked line ≡ Unknown m → IsUnknown line m
unknown_is line m e = subst (Meant line) e (meant line)

abbrev is_message : Parse → Bool
is_message malformed = false
is_message (message m) = true

-- the other way: a request of a name that is in the table is asked
pub request_asked : (line : List ℕ) (m : Message) → parse line ≡ message m → m.kind ≡ code "?" → asked line ≡ asked_for (request_named m.name) m
unfolding asked
request_asked line m e k = go (blank_line line) refl
  where
    go : (b : Bool) → blank_line line ≡ b → cond b Nothing (asked_by (parse line)) ≡ asked_for (request_named m.name) m
    go true q = absurd (true≢false (ap is_message (sym e ∙ blank_parse line q)))
    go false q = rw (e, k)

request_or : Option Request → Request
request_or None = ClientList
request_or (Some r) = r

-- two requests of one name are the same
pub names_apart_lem : (q r : Request) → name_for q ≡ name_for r → q ≡ r
unfolding request_or
names_apart_lem q r e = ap request_or (sym (request_found q) ∙ (ap request_named e ∙ request_found r))

-- a request is sampling, or has another name
pub by_sampling : (P : Request → Type 0) → P SensorSampling → ((r : Request) → same (name_for r) (name_for SensorSampling) ≡ false → P r) → (r : Request) → P r
by_sampling P yes-case no-case r = go (same (name_for r) (name_for SensorSampling)) refl
  where
    go : (b : Bool) → same (name_for r) (name_for SensorSampling) ≡ b → P r
    go true e = subst P (sym (names_apart_lem r SensorSampling (same_true (name_for r) (name_for SensorSampling) e))) yes-case
    go false e = no-case r e

-- a request is a halt, a restart, or has another name
pub by_ending : (P : Request → Type 0) → P Halt → P Restart → ((r : Request) → (same (name_for r) (name_for Halt) || same (name_for r) (name_for Restart)) ≡ false → P r) → (r : Request) → P r
by_ending P halt restart other ClientList = other ClientList refl
by_ending P halt restart other Halt = halt
by_ending P halt restart other Help = other Help refl
by_ending P halt restart other LogLevel = other LogLevel refl
by_ending P halt restart other Restart = restart
by_ending P halt restart other SensorList = other SensorList refl
by_ending P halt restart other SensorSampling = other SensorSampling refl
by_ending P halt restart other SensorValue = other SensorValue refl
by_ending P halt restart other VersionList = other VersionList refl
by_ending P halt restart other Watchdog = other Watchdog refl

-- a connect of client a is a connect
pub connect_only : (P : Action → Type 0) (a : ℕ) → ((c : ℕ) (address : List ℕ) → eqb c a ≡ true → P (Connect c address)) → (action : Action) → is_connect a action ≡ true → P action
connect_only P a connect (Connect c address) e = connect c address e
connect_only P a connect (Disconnect c) e = absurd (true≢false (sym e))
connect_only P a connect (Tick t) e = absurd (true≢false (sym e))
connect_only P a connect (Reading j r) e = absurd (true≢false (sym e))
connect_only P a connect (Log level logger said) e = absurd (true≢false (sym e))
connect_only P a connect (Line c line) e = absurd (true≢false (sym e))

-- a line that asks a request and that nothing declines
pub record Asking (s : State) (c : ℕ) (line : List ℕ) (r : Request) (m : Message) : Type 0 where
  pub client : c < 8
  pub there : connected s c ≡ true
  pub request : IsRequest line r m
  pub shown : hidden s.sheet.profile r ≡ false
  pub counted : count_fits r (length m.args) ≡ true
  pub arguments : arguments_declined s.sheet r m ≡ 0

-- a line that nothing declines asks nothing, or a request
pub by_asking : (P : Work → Type 0) (s : State) (c : ℕ) (line : List ℕ) → action_declined s.sheet s (Line c line) ≡ 0
    → P (sends_only s []) → ((r : Request) (m : Message) → Asking s c line r m → P (answer s.sheet s c r m)) → P (line_work s.sheet s c (asked line))
unfolding action_declined line_declined line_work
by_asking P s c line d nothing asks = go (asked line) refl fits.1.1
  where
    fits : (c < 8) × ((not (connected s c) ≡ false) × (line_declined s.sheet (asked line) ≡ 0))
    fits = client_fits s.sheet.profile (not (connected s c)) c (line_declined s.sheet (asked line)) d

    go : (w : Asked) → asked line ≡ w → line_declined s.sheet w ≡ 0 → P (line_work s.sheet s c w)
    go Nothing e z = nothing
    go NotMessage e z = nothing
    go Reply e z = nothing
    go (Unknown m) e z = nothing
    go (Asks r m) e z = let p = passed (hidden s.sheet.profile r) 14 _ (omega arith) z in let q = passed (not (count_fits r (length m.args))) 15 (arguments_declined s.sheet r m) (omega arith) p.1 in
        asks r m (record { client = fits.0; there = not-false (connected s c) fits.1.0; request = asks_is line r m e; shown = p.0; counted = not-false (count_fits r (length m.args)) q.0; arguments = q.1 })
