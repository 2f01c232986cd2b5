-- A file that is cut: what its lines tell up to one of them. How a connection ends, and what a file's bytes give back. Lists and files as in Tells.antt.
use Rattle.std.specs.Prelude.{ℕ, ◌≤◌, ◌<◌, ◌≡◌, Bool, true, false, cond, not, ◌&&◌, List, [], ◌∷◌, ◌++◌, eqb, ltb, length, take, Option, None, Some}
use Rattle.output.specs.Text.{text}
use Rattle.message.specs.Message.{line}
use Rattle.line.specs.Line.{Parse, malformed, message, parse}
use Rattle.machine.specs.declared.Sheet.{Sheet}
use Rattle.machine.specs.Places.{Each, joined}
use Rattle.machine.specs.Opening.{Start}
use Rattle.machine.specs.Range.{is_none}
use Rattle.machine.specs.Messages.{disconnect}
use Rattle.machine.specs.Declined.{Line, Call, call_of}
use Rattle.machine.specs.Reader.{News, Other, Impossible, Reported, SetTo, is_ok}
use Rattle.machine.specs.TwoDevices.{sheet_of, ends_all, connects, connected_at_end, lines_of, packets_of, without_end, clock_of}
use Rattle.machine.specs.Tells.{line_news, FileTells, reading_at, connects_in, shows_clock, line_clock}

-- A file that is cut.

-- the calls up to the one that gave line k of the archive's file, from 0
unfoldable pub up_to_line : Start → ℕ → ℕ → List Call → List Call
up_to_line start a k [] = []
up_to_line start a k (call ∷ h) = cond (not (connects start a h call) && ltb k (length (lines_of start a h))) (up_to_line start a k h) (call ∷ h)

-- that call: it is in the list, the archive has not connected since, and the line is one of those that it gave
pub record GaveLine (start : Start) (a k : ℕ) (h later : List Call) (call : Call) (g : List Call) : Type 0 where
  pub in_list : h ≡ later ++ (call ∷ g)
  pub same_connection : connects_in start a later (call ∷ g) ≡ false
  pub not_before : length (cond (connects start a g call) [] (lines_of start a g)) ≤ k
  pub by_then : k < length (lines_of start a (call ∷ g))

-- a report
abbrev pub is_report : News → Bool
is_report Other = false
is_report Impossible = false
is_report (Reported k r) = true
is_report (SetTo js st) = false

-- a report at the clock t
abbrev pub is_report_at : ℕ → News → Bool
is_report_at t Other = false
is_report_at t Impossible = false
is_report_at t (Reported k r) = eqb r.time t
is_report_at t (SetTo js st) = false

-- two lines that follow each other may be of one call, which tells more behind the first: two reports at one clock, of one tick or of one setting; and a
-- report behind a sampling reply with another strategy than none, which sends its reports in the same call unless it answers a query
abbrev pub goes_on : News → News → Bool
goes_on Other next = false
goes_on Impossible next = false
goes_on (Reported k r) next = is_report_at r.time next
goes_on (SetTo js st) next = not (is_none st) && is_report next

-- the same of a line behind which none is seen
abbrev pub may_go_on : News → Bool
may_go_on Other = false
may_go_on Impossible = false
may_go_on (Reported k r) = true
may_go_on (SetTo js st) = not (is_none st)

-- what a line leaves open to a reader who sees the lines `seen` behind it
abbrev pub leaves_open : Sheet → List ℕ → List (List ℕ) → Bool
leaves_open sheet l [] = may_go_on (line_news sheet l)
leaves_open sheet l (next ∷ seen) = goes_on (line_news sheet l) (line_news sheet next)

-- the clock of the next line that shows one
abbrev pub next_clock : List (List ℕ) → Option ℕ
next_clock [] = None
next_clock (l ∷ ls) = cond (shows_clock (parse (without_end l))) (line_clock l) (next_clock ls)

-- a line that is a sampling reply with `ok`
abbrev pub is_sampling_ok : Parse → Bool
is_sampling_ok malformed = false
is_sampling_ok (message m) = is_ok (text "sensor-sampling") m

-- what the lines `before` and l tell of sensor j holds at the end of the call that gave l
abbrev pub HoldsUpTo : Start → ℕ → List Call → List (List ℕ) → List ℕ → ℕ → Type 0
HoldsUpTo start a h before l j = FileTells (sheet_of start) j (before ++ (l ∷ []))
    (clock_of start (up_to_line start a (length before) h)) (reading_at start j (up_to_line start a (length before) h))

-- `given`: `up_to_line` ends with the call that gave the line.
-- `cut`: what the lines up to l tell holds at the end of the call that gave l, wherever the file is cut behind the lines `seen`, if l leaves nothing open.
-- `whole`: and if the file is whole and ends with l.
-- `by_clock`: a line leaves nothing open if it is no sampling reply with `ok`, and the next line that shows a clock shows a later one than l and every line
-- before it.
pub record CutTells : Type 0 where
  pub given : (start : Start) (a k : ℕ) (h : List Call) → connected_at_end start a h ≡ true → k < length (lines_of start a h)
      → (later : List Call) × ((call : Call) × ((g : List Call) × ((up_to_line start a k h ≡ call ∷ g) × GaveLine start a k h later call g)))
  pub cut : (start : Start) (a : ℕ) (h : List Call) → connected_at_end start a h ≡ true → (before : List (List ℕ)) (l : List ℕ) (seen unseen : List (List ℕ))
      → lines_of start a h ≡ before ++ (l ∷ (seen ++ unseen)) → leaves_open (sheet_of start) l seen ≡ false → (j : ℕ) → j < (sheet_of start).count
      → HoldsUpTo start a h before l j
  pub whole : (start : Start) (a : ℕ) (h : List Call) → connected_at_end start a h ≡ true → (before : List (List ℕ)) (l : List ℕ)
      → lines_of start a h ≡ before ++ (l ∷ []) → (j : ℕ) → j < (sheet_of start).count → HoldsUpTo start a h before l j
  pub by_clock : (sheet : Sheet) (before : List (List ℕ)) (l : List ℕ) (seen : List (List ℕ)) (t : ℕ) → is_sampling_ok (parse (without_end l)) ≡ false
      → next_clock seen ≡ Some t → Each (λ k. (u : ℕ) → line_clock k ≡ Some u → u < t) (before ++ (l ∷ [])) → leaves_open sheet l seen ≡ false

-- The end of a connection.

-- a `halt` or `restart` of client c that is answered `ok` gives an archive that is connected `#disconnect` as its last line; before it stand the lines up to
-- then, where the archive is connected and all of the above holds, and, if the archive asked itself, the one reply
abbrev pub LastLine : Type 0
LastLine = (start : Start) (a c : ℕ) (asked lent : List ℕ) (h : List Call) → connected_at_end start a h ≡ true
    → ends_all (Line c asked) (packets_of start h (call_of (Line c asked) lent)) ≡ true
    → (why : List ℕ) × ((replies : List (List ℕ)) × ((lines_of start a (call_of (Line c asked) lent ∷ h) ≡ lines_of start a h ++ (replies ++ (line (disconnect why) ∷ [])))
    × (length replies ≡ cond (eqb c a) 1 0)))

-- The file's bytes.

-- a byte before the first of some lines
abbrev pub start_with : ℕ → List (List ℕ) → List (List ℕ)
start_with b [] = []
start_with b (l ∷ ls) = (b ∷ l) ∷ ls

-- the whole lines in bytes: each byte 10 ends one, and belongs to it; bytes behind the last are none
abbrev pub whole_lines : List ℕ → List (List ℕ)
whole_lines [] = []
whole_lines (b ∷ s) = cond (eqb b 10) ((10 ∷ []) ∷ whole_lines s) (start_with b (whole_lines s))

-- `whole_file`: the bytes of a file, its lines one after another, give its lines back.
-- `cut_off`: of the first n bytes the whole lines are a start of the file's lines.
pub record FileCut : Type 0 where
  pub whole_file : (start : Start) (a : ℕ) (h : List Call) → whole_lines (joined (lines_of start a h)) ≡ lines_of start a h
  pub cut_off : (start : Start) (a : ℕ) (h : List Call) (n : ℕ)
      → (rest : List (List ℕ)) × (lines_of start a h ≡ whole_lines (take n (joined (lines_of start a h))) ++ rest)
