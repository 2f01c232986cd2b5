-- What the file of one archive tells of the sensors: at the end, at every moment before it, and where the file is cut. `a` is the archive's client
-- number, `start` what the unit was opened with, `h` a list of calls with its latest first, as in TwoDevices.antt; a file is the archive's lines (`lines_of`). The readings that it
-- tells of are those that superseded the one stored before them (document 02, (g)): one that came late and was passed over is in no file and in no bound.
use Rattle.std.specs.Prelude.{ℕ, ◌+◌, ◌-◌, ◌*◌, ◌≤◌, ◌<◌, ◌≡◌, Bool, true, false, cond, ◌&&◌, ◌||◌, List, [], ◌∷◌, ◌++◌, map, eqb, ltb, Option, None, Some}
use Prim.Native.Char.{code}
use Rattle.output.specs.Text.{text}
use Rattle.output.specs.Read.{read_time}
use Rattle.message.specs.Message.{line}
use Rattle.line.specs.Line.{Parse, malformed, message, parse}
use Rattle.value.specs.declared.Sample.{Sample}
use Rattle.machine.specs.declared.Sensor.{Sensor}
use Rattle.machine.specs.declared.Sheet.{Sheet}
use Rattle.machine.specs.declared.Strategy.{Strategy}
use Rattle.machine.specs.declared.Strategy.TheVariants.{None as NoStrategy, Auto, Period, Event, Differential, EventRate, DifferentialRate}
use Rattle.machine.specs.Places.{has, Each}
use Rattle.machine.specs.Sheet.{sensor_of}
use Rattle.machine.specs.Opening.{Start}
use Rattle.machine.specs.Range.{is_none}
use Rattle.machine.specs.Messages.{status_for, report}
use Rattle.machine.specs.Report.{is_valid, apart, width}
use Rattle.machine.specs.Requests.{argument}
use Rattle.machine.specs.Declined.{Arrival, Reading, Call, call_of}
use Rattle.machine.specs.Machine.{sample_given}
use Rattle.machine.specs.Reader.{Told, News, Other, Impossible, Reported, SetTo, news, is_named, valid_status, View, view_after, no_view, told_of}
use Rattle.machine.specs.TwoDevices.{sheet_of, connects, connected_at_end, lines_of, lines_to, packets_of, without_end, strategy_of, last_report, last_reading, sample_from, clock_of}
use Rattle.machine.specs.LateReadings.{Newer}

-- The reader of a file.

-- what a line tells; a line that is no message is one that no device writes
abbrev pub news_in : Sheet → Parse → News
news_in sheet malformed = Impossible
news_in sheet (message m) = news sheet m

-- a line as it stands in a file, with its end
abbrev pub line_news : Sheet → List ℕ → News
line_news sheet l = news_in sheet (parse (without_end l))

-- what lines tell of sensor j, one after another
unfoldable pub view_in : Sheet → ℕ → List (List ℕ) → View → View
view_in sheet j [] v = v
view_in sheet j (l ∷ ls) v = view_in sheet j ls (view_after j (line_news sheet l) v)

-- what a file tells of sensor j: the strategy of the last `!sensor-sampling ok` that names it, and its last report
abbrev pub file_view : Sheet → ℕ → List (List ℕ) → View
file_view sheet j ls = view_in sheet j ls no_view

-- What a last report tells of the present reading x, by strategy, where the clock is `now`.

-- status and value are those of the report
abbrev pub Same : Sensor → Sample → Told → Type 0
Same n x r = (status_for n x ≡ r.status) × (x.number ≡ r.value)

-- the status is that of the report and, where it is valid, the value lies at most the difference from it
abbrev pub Near : Sensor → ℕ → Sample → Told → Type 0
Near n d x r = (status_for n x ≡ r.status) × (is_valid x ≡ true → apart x.number r.value * 1000000 ≤ width n d)

-- auto and event: the same; differential: near it; the rate kinds likewise, once the shortest period has passed; period and none: nothing
abbrev pub Known : Sensor → ℕ → Sample → Strategy → Told → Type 0
Known n now x NoStrategy r = Unit
Known n now x Auto r = Same n x r
Known n now x (Period p) r = Unit
Known n now x Event r = Same n x r
Known n now x (Differential d) r = Near n d x r
Known n now x (EventRate shortest longest) r = shortest ≤ now - r.time → Same n x r
Known n now x (DifferentialRate d shortest longest) r = shortest ≤ now - r.time → Near n d x r

-- what a reader's view of a sensor tells, where its present reading is x and the unit's clock `clock`: a sensor that has a strategy has a report, and this
-- tells the reading, to a reader who goes by the unit's clock or by any earlier one, as by those that lines show
pub record ViewTells (n : Sensor) (v : View) (clock : ℕ) (x : Sample) : Type 0 where
  pub was_reported : is_none v.strategy ≡ false → (r : Told) × (v.last ≡ Some r)
  pub tells : (r : Told) → v.last ≡ Some r → (now : ℕ) → now ≤ clock → Known n now x v.strategy r

-- what lines tell of sensor j
abbrev pub FileTells : Sheet → ℕ → List (List ℕ) → ℕ → Sample → Type 0
FileTells sheet j ls clock x = ViewTells (sensor_of sheet j) (file_view sheet j ls) clock x

-- The end of a list.

-- the present reading of sensor j behind the calls h
abbrev pub reading_at : Start → ℕ → List Call → Sample
reading_at start j h = sample_from (sensor_of (sheet_of start) j) (last_reading start j h)

-- the file behind the calls h tells of sensor j: its strategy is the one that the archive set, its last report is the last, and these tell the reading
pub record TellsAt (start : Start) (a : ℕ) (h : List Call) (j : ℕ) : Type 0 where
  pub strategy_told : (file_view (sheet_of start) j (lines_of start a h)).strategy ≡ strategy_of start a j h
  pub report_told_lem : (file_view (sheet_of start) j (lines_of start a h)).last ≡ last_report (sheet_of start) j (lines_of start a h)
  pub reading_told : FileTells (sheet_of start) j (lines_of start a h) (clock_of start h) (reading_at start j h)

-- of every device with its archive connected at the end
abbrev pub Tells : Type 0
Tells = (start : Start) (a : ℕ) (h : List Call) → connected_at_end start a h ≡ true → (j : ℕ) → j < (sheet_of start).count → TellsAt start a h j

-- Every moment.

-- the archive connects in one of the calls `later`, which come behind the calls h
unfoldable pub connects_in : Start → ℕ → List Call → List Call → Bool
connects_in start a [] h = false
connects_in start a (call ∷ later) h = connects start a (later ++ h) call || connects_in start a later h

-- an earlier moment of the archive's connection: behind the calls h, where the calls `later` follow
pub record Earlier (start : Start) (a : ℕ) (later h : List Call) : Type 0 where
  pub at_end : connected_at_end start a (later ++ h) ≡ true
  pub same_connection : connects_in start a later h ≡ false

-- the archive is connected there too, its lines up to there are a start of the file, and these tell the readings as they are there
pub record Moment (start : Start) (a : ℕ) (later h : List Call) : Type 0 where
  pub connected_then : connected_at_end start a h ≡ true
  pub begins : (rest : List (List ℕ)) × (lines_of start a (later ++ h) ≡ lines_of start a h ++ rest)
  pub tells_then : (j : ℕ) → j < (sheet_of start).count → TellsAt start a h j

-- at every one of them
abbrev pub EveryMoment : Type 0
EveryMoment = (start : Start) (a : ℕ) (later h : List Call) → Earlier start a later h → Moment start a later h

-- Peaks.

-- the moments from h on: behind h, and behind each call of `later`, the latest first
abbrev pub moments : List Call → List Call → List (List Call)
moments [] h = h ∷ []
moments (call ∷ later) h = (call ∷ (later ++ h)) ∷ moments later h

-- the valid among samples, by their numbers
abbrev pub valid_numbers : List Sample → List ℕ
valid_numbers [] = []
valid_numbers (x ∷ xs) = cond (is_valid x) (x.number ∷ valid_numbers xs) (valid_numbers xs)

-- the value of a valid report of sensor j
abbrev pub valid_in : ℕ → News → List ℕ
valid_in j Other = []
valid_in j Impossible = []
valid_in j (Reported k r) = cond (eqb k j && valid_status r.status) (r.value ∷ []) []
valid_in j (SetTo js st) = []

-- the values of all valid reports of sensor j in a file
unfoldable pub valid_reports : Sheet → ℕ → List (List ℕ) → List ℕ
valid_reports sheet j [] = []
valid_reports sheet j (l ∷ ls) = valid_in j (line_news sheet l) ++ valid_reports sheet j ls

-- the highest of numbers, 0 where there is none
unfoldable pub highest : List ℕ → ℕ
highest [] = 0
highest (n ∷ ns) = cond (ltb (highest ns) n) n (highest ns)

-- how far a valid reading can lie from the report that stands, on the scale of `width`: not at all under auto and event, at most the difference under
-- differential; under the others any distance goes unseen, for a time or for good
abbrev pub reach : Sensor → Strategy → Option ℕ
reach n NoStrategy = None
reach n Auto = Some 0
reach n (Period p) = None
reach n Event = Some 0
reach n (Differential d) = Some (width n d)
reach n (EventRate shortest longest) = None
reach n (DifferentialRate d shortest longest) = None

-- sensor j has had the strategy st from the moment h on
pub record Under (start : Start) (a j : ℕ) (st : Strategy) (later h : List Call) : Type 0 where
  pub earlier : Earlier start a later h
  pub on_sheet : j < (sheet_of start).count
  pub set-since : Each (λ g. strategy_of start a j g ≡ st) (moments later h)

-- a line that names sensor j with no other strategy than st
abbrev pub KeepsStrategy : ℕ → Strategy → News → Type 0
KeepsStrategy j st Other = Unit
KeepsStrategy j st Impossible = Unit
KeepsStrategy j st (Reported k r) = Unit
KeepsStrategy j st (SetTo js new) = has j js ≡ true → new ≡ st

-- `within`: every valid reading that superseded since such a strategy was set lies within its reach of a valid report that is in the file.
-- `peak`: so the highest of these readings is at most the highest valid report and the reach.
-- `as_shown`: the file shows the assumption: its lines up to h set this strategy, and those behind name the sensor with no other.
pub record PeakBounded : Type 0 where
  pub within : (start : Start) (a j w : ℕ) (st : Strategy) (later h : List Call) → Under start a j st later h → reach (sensor_of (sheet_of start) j) st ≡ Some w
      → Each (λ x. is_valid x ≡ true → (v : ℕ) × ((has v (valid_reports (sheet_of start) j (lines_of start a (later ++ h))) ≡ true)
      × (apart x.number v * 1000000 ≤ w))) (map (reading_at start j) (moments later h))
  pub peak : (start : Start) (a j w : ℕ) (st : Strategy) (later h : List Call) → Under start a j st later h → reach (sensor_of (sheet_of start) j) st ≡ Some w
      → highest (valid_numbers (map (reading_at start j) (moments later h))) * 1000000
      ≤ highest (valid_reports (sheet_of start) j (lines_of start a (later ++ h))) * 1000000 + w
  pub as_shown : (start : Start) (a j : ℕ) (st : Strategy) (later h : List Call) (behind : List (List ℕ)) → Earlier start a later h → j < (sheet_of start).count
      → lines_of start a (later ++ h) ≡ lines_of start a h ++ behind → (file_view (sheet_of start) j (lines_of start a h)).strategy ≡ st
      → Each (λ l. KeepsStrategy j st (line_news (sheet_of start) l)) behind → Under start a j st later h

-- Reports.

-- every report of a call, under every strategy, tells the reading that its sensor has at the call's end, at the clock that stands then
abbrev pub ReportsTrue : Type 0
ReportsTrue = (start : Start) (a : ℕ) (h : List Call) (call : Call)
    → Each (λ l. (k : ℕ) (r : Told) → line_news (sheet_of start) l ≡ Reported k r
    → r ≡ told_of (sensor_of (sheet_of start) k) (clock_of start (call ∷ h)) (reading_at start k (call ∷ h))) (lines_to a (packets_of start h call))

-- Auto.

-- the report of sensor j that a reading gives behind the calls h
abbrev pub report_given : Start → ℕ → Arrival → List Call → List ℕ
report_given start j r h = line (report (clock_of start h) (sensor_of (sheet_of start) j) (sample_given (sensor_of (sheet_of start) j) r))

-- Under auto every reading that superseded is a line of the file.
-- `own_line`: it is the one line that the reading's call gives the archive, behind those before it.
-- `in_file`: so it stands there in the file of every later moment of the connection.
-- `told`: and it tells that reading, at that clock.
pub record AutoShows : Type 0 where
  pub own_line : (start : Start) (a j : ℕ) → j < (sheet_of start).count → (r : Arrival) (lent : List ℕ) (h : List Call)
      → connected_at_end start a h ≡ true → Newer start j r lent h → strategy_of start a j h ≡ Auto
      → lines_of start a (call_of (Reading j r) lent ∷ h) ≡ lines_of start a h ++ (report_given start j r h ∷ [])
  pub in_file : (start : Start) (a j : ℕ) → j < (sheet_of start).count → (r : Arrival) (lent : List ℕ) (later h : List Call)
      → Earlier start a later (call_of (Reading j r) lent ∷ h) → Newer start j r lent h → strategy_of start a j h ≡ Auto
      → (rest : List (List ℕ)) × (lines_of start a (later ++ (call_of (Reading j r) lent ∷ h)) ≡ lines_of start a h ++ (report_given start j r h ∷ rest))
  pub told : (start : Start) (j : ℕ) → j < (sheet_of start).count → (r : Arrival) (h : List Call)
      → line_news (sheet_of start) (report_given start j r h)
      ≡ Reported j (told_of (sensor_of (sheet_of start) j) (clock_of start h) (sample_given (sensor_of (sheet_of start) j) r))

-- The clock.

-- a line shows a clock if it is a `#sensor-status` or a `#log`
abbrev pub shows_clock : Parse → Bool
shows_clock malformed = false
shows_clock (message m) = is_named (code "#") (text "sensor-status") m || is_named (code "#") (text "log") m

-- the clock that it shows
abbrev pub clock_in : Parse → Option ℕ
clock_in malformed = None
clock_in (message m) =
    cond (is_named (code "#") (text "sensor-status") m) (read_time (argument m 0))
    (cond (is_named (code "#") (text "log") m) (read_time (argument m 1))
    None)

-- of a line as it stands in a file
abbrev pub line_clock : List ℕ → Option ℕ
line_clock l = clock_in (parse (without_end l))

-- `never_back`: the unit's clock never goes back.
-- `shown`: each line of a call that shows a clock shows the one at the call's end.
-- `at_least`: so the clock is at least that of every report and log entry in the file.
pub record ClockShown : Type 0 where
  pub never_back : (start : Start) (later h : List Call) → clock_of start h ≤ clock_of start (later ++ h)
  pub shown : (start : Start) (a : ℕ) (h : List Call) (call : Call)
      → Each (λ l. shows_clock (parse (without_end l)) ≡ true → line_clock l ≡ Some (clock_of start (call ∷ h))) (lines_to a (packets_of start h call))
  pub at_least : (start : Start) (a : ℕ) (h : List Call)
      → Each (λ l. shows_clock (parse (without_end l)) ≡ true → (t : ℕ) × ((line_clock l ≡ Some t) × (t ≤ clock_of start h))) (lines_of start a h)
