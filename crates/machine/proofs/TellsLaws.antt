-- One device: what is read off its list of calls and off its archive's file is what its state holds, and the file tells the present readings.
use Prim.Native.Nat.{ℕ, ◌≤◌, ◌<◌}
use native.Mathlib.Omega.{arith}
use mathlib.Core.Path.{◌≡◌, refl, ap, sym, ◌∙◌, subst}
use mathlib.Core.Bool.{Bool, true, false, cond}
use mathlib.Core.List.{List, [], ◌∷◌, ◌++◌, map}
use Rattle.std.specs.Prelude.{Option, None, Some}
use Rattle.std.proofs.lemmas.Option.{same_Some}
use lib.ListN.{take}
use Rattle.message.specs.Message.{Message, line}
use Rattle.message.specs.Delivery.{Delivery}
use Rattle.line.specs.Line.{Parse, message, parse, WellFormed}
use Rattle.value.specs.declared.Sample.{Sample}
use Rattle.machine.specs.declared.Sensor.{Sensor}
use Rattle.machine.specs.declared.Sheet.{Sheet}
use Rattle.machine.specs.declared.Strategy.{Strategy}
use Rattle.machine.specs.declared.Strategy.TheVariants.{None as NoStrategy, Auto, Period, Event, Differential, EventRate, DifferentialRate}
use Rattle.machine.specs.declared.Subscription.{Subscription}
use Rattle.machine.specs.Places.{Each, joined}
use Rattle.machine.specs.Sheet.{sensor_of}
use Rattle.machine.specs.State.{connected, present, pair_of}
use Rattle.machine.specs.Opening.{Start}
use Rattle.machine.specs.Declined.{Call}
use Rattle.machine.specs.Machine.{step}
use Rattle.machine.specs.Reader.{Told, Impossible, news, View, view_after, view_by, no_view, view_of, standing, told_of}
use Rattle.machine.specs.TwoDevices.{after, sheet_of, connected_at_end, lines_of, messages_of, strategy_of, last_report, later, without_end}
use Rattle.machine.specs.Tells.{news_in, line_news, view_in, file_view, Known, ViewTells, reading_at, TellsAt, Tells}
use Rattle.machine.specs.Cut.{whole_lines, FileCut}
use Rattle.machine.proofs.TestLaws.{none_some}
use Rattle.machine.proofs.SheetLaws.{Sensors, sensors_out}
use Rattle.machine.proofs.OpenedRange.{opened_range}
use Rattle.machine.proofs.Impossible.{never_impossible}
use Rattle.machine.proofs.Sent.{sent_well_formed}
use Rattle.machine.proofs.FileLaws.{line_parses, whole_lines_lem, cut_lines}
use Rattle.machine.proofs.ListLaws.{sheet_is, clock_is, stored_by, connected_is, at_end_small, heard_is}
use Rattle.machine.proofs.StrategyLaws.{strategy_is}
use Rattle.machine.proofs.KnownLaws.{Good}
use Rattle.machine.proofs.SettledLaws.{good}
use Rattle.machine.proofs.ArchiveLaws.{lines_are, each_message, last_is}

-- The reader of lines is the reader of their messages.

pub view_lines : (sheet : Sheet) (j : ℕ) (ms : List Message) (v : View) → Each WellFormed ms → view_in sheet j (map line ms) v ≡ view_by sheet j ms v
unfolding view_in view_by
view_lines sheet j [] v w = refl
view_lines sheet j (m ∷ ms) v w = ap (λ p. view_in sheet j (map line ms) (view_after j (news_in sheet p) v)) (line_parses m w.0) ∙ view_lines sheet j ms _ w.1

-- what holds of messages holds of their lines, read
pub lines_read : (Q : Parse → Type 0) (ms : List Message) → Each WellFormed ms → Each (λ m. Q (message m)) ms → Each (λ l. Q (parse (without_end l))) (map line ms)
lines_read Q [] w h = tt
lines_read Q (m ∷ ms) w h = (subst Q (sym (line_parses m w.0)) h.0, lines_read Q ms w.1 h.1)

pub view_in_append : (sheet : Sheet) (j : ℕ) (xs ys : List (List ℕ)) (v : View) → view_in sheet j (xs ++ ys) v ≡ view_in sheet j ys (view_in sheet j xs v)
unfolding view_in
view_in_append sheet j [] ys v = refl
view_in_append sheet j (l ∷ ls) ys v = view_in_append sheet j ls ys (view_after j (line_news sheet l) v)

later_none : (o : Option Told) → later o None ≡ o
later_none None = refl
later_none (Some r) = refl

-- What is held, told.

-- what is known at a clock was known at an earlier one
pub known_earlier : (n : Sensor) (now clock : ℕ) (x : Sample) (st : Strategy) (r : Told) → now ≤ clock → Known n clock x st r → Known n now x st r
known_earlier n now clock x NoStrategy r h k = tt
known_earlier n now clock x Auto r h k = k
known_earlier n now clock x (Period p) r h k = tt
known_earlier n now clock x Event r h k = k
known_earlier n now clock x (Differential d) r h k = k
known_earlier n now clock x (EventRate a b) r h k = λ p. k (omega arith)
known_earlier n now clock x (DifferentialRate d a b) r h k = λ p. k (omega arith)

-- a pair that is good, as a reader sees it
pub good_tells : (n : Sensor) (clock : ℕ) (x : Sample) (p : Subscription) → Good n clock x p → ViewTells n (view_of n p) clock x
good_tells n clock x p g = record {
  was_reported = λ e. (told_of n p.time p.sample, rw (g.was_reported e));
  tells = λ r e now h. known_earlier n now clock x p.strategy r h (subst (Known n clock x p.strategy) (same r p.reported e) g.known);
}
  where
    same : (r : Told) (b : Bool) → cond b (Some (told_of n p.time p.sample)) None ≡ Some r → told_of n p.time p.sample ≡ r
    same r true e = same_Some (told_of n p.time p.sample) r e
    same r false e = absurd (none_some r e)

pub sheet_rules : (start : Start) → Sensors (sheet_of start)
sheet_rules start = sensors_out (sheet_of start) (opened_range start).sensors_in

module _ (start : Start) (a : ℕ) (h : List Call) where
  pub well : Each WellFormed (messages_of start a h)
  well = each_message WellFormed start a (λ h call. sent_well_formed (after start h) call) h

  possible : Each (λ m. news (sheet_of start) m ≡ Impossible → ⊥) (messages_of start a h)
  possible = each_message (λ m. news (sheet_of start) m ≡ Impossible → ⊥) start a
      (λ h call. subst (λ sheet. Each (λ (e : Delivery). news sheet e.message ≡ Impossible → ⊥) (step (after start h) call).sent) (sheet_is start h) (never_impossible (after start h) call))
      h

  module _ (c : connected_at_end start a h ≡ true) where
    small : a < 8
    small = at_end_small start a h c

    pub on : connected (after start h) a ≡ true
    on = connected_is start a small h ∙ c

    module _ (j : ℕ) (hs : j < (sheet_of start).count) where
      hj : j < 32
      hj = omega (arith, (sheet_rules start).count_most)

      pub view_held : standing (sheet_of start) (after start h) a j ≡ view_by (sheet_of start) j (messages_of start a h) no_view
      view_held = heard_is a j small hj start h on

      pub strategy_held : (pair_of (after start h) a j).strategy ≡ strategy_of start a j h
      strategy_held = strategy_is a j small hj start h on

      pub report_held : (standing (sheet_of start) (after start h) a j).last ≡ last_report (sheet_of start) j (lines_of start a h)
      report_held = ap (λ (v : View). v.last) view_held ∙ (last_is (sheet_of start) j (messages_of start a h) no_view well possible
          ∙ (later_none (last_report (sheet_of start) j (map line (messages_of start a h))) ∙ ap (last_report (sheet_of start) j) (sym (lines_are start a h))))

      pub reading_held : present (after start h) j ≡ reading_at start j h
      reading_held = (stored_by start j hj hs h).sample_is

      file_held : file_view (sheet_of start) j (lines_of start a h) ≡ standing (sheet_of start) (after start h) a j
      file_held = ap (file_view (sheet_of start) j) (lines_are start a h) ∙ (view_lines (sheet_of start) j (messages_of start a h) no_view well ∙ sym view_held)

      state_tells : ViewTells (sensor_of (sheet_of start) j) (standing (sheet_of start) (after start h) a j) (after start h).clock (present (after start h) j)
      state_tells = good_tells (sensor_of (sheet_of start) j) (after start h).clock (present (after start h) j) (pair_of (after start h) a j) (good a j small hj start hs h on)

      tells_at : TellsAt start a h j
      tells_at = record {
        strategy_told = ap (λ (v : View). v.strategy) file_held ∙ strategy_held;
        report_told_lem = ap (λ (v : View). v.last) file_held ∙ report_held;
        reading_told = rw (file_held, ← clock_is start h, ← reading_held) state_tells;
      }

-- what a file tells at the end
pub tells : Tells
tells start a h c j hs = tells_at start a h c j hs

-- what a file's bytes give back
pub file_cut : FileCut
file_cut = record {
  whole_file = λ start a h. ap (λ ls. whole_lines (joined ls)) (lines_are start a h) ∙ (whole_lines_lem (messages_of start a h) (well start a h) ∙ sym (lines_are start a h));
  cut_off = λ start a h n. subst (λ ls. (rest : List (List ℕ)) × (ls ≡ whole_lines (take n (joined ls)) ++ rest)) (sym (lines_are start a h)) (cut_lines (messages_of start a h) (well start a h) n);
}
