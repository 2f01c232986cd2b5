-- What the reader makes of a report and of a reply to `sensor-sampling`.
use Prim.Native.Nat.{ℕ, suc, ◌+◌, ◌≤◌, ◌<◌}
use native.Mathlib.Omega.{arith}
use mathlib.Core.Path.{◌≡◌, ap, ◌∙◌}
use mathlib.Core.Bool.{Bool, true, false}
use mathlib.Core.List.{List, [], ◌∷◌, map}
use Rattle.std.specs.Prelude.{Some}
use lib.ListN.{length, get_or, length-map}
use borrow.Author.Tests.{lt-ltb, le-leb, eq-eqb}
use Rattle.output.specs.Text.{text, all}
use Rattle.output.proofs.ReadBack.{times}
use Rattle.message.specs.Message.{Message}
use Rattle.value.specs.declared.Sample.{Sample}
use Rattle.machine.specs.declared.Sensor.{Sensor}
use Rattle.machine.specs.declared.Sheet.{Sheet}
use Rattle.machine.specs.declared.Strategy.{Strategy}
use Rattle.machine.specs.Places.{any, twice}
use Rattle.machine.specs.Sheet.{sensor_of, name_of, place_of, not_on_sheet, sensors_ok}
use Rattle.machine.specs.Range.{sample_ok, strategy_ok}
use Rattle.machine.specs.Messages.{status_for, value_for, report, strategy_text, strategy_kind, parameter_texts, sampling_reply, report_of}
use Rattle.machine.specs.Requests.{split, parameter_count, first_of}
use Rattle.machine.specs.Reader.{Reported, SetTo, Impossible, told_of, agrees, is_shaped, parts_of, report_on, report_read, agreed, strategy_news, sampling_news, news}
use Rattle.machine.proofs.TestLaws.{and_true, cond_true}
use Rattle.machine.proofs.SheetLaws.{Sensors, sensors_out, place_of_name}
use Rattle.machine.proofs.SamplingLaws.{split_some}
use Rattle.machine.proofs.SampleRange.{status_most, sample_number, Reportable}
use Rattle.machine.proofs.ValueBack.{status_named_lem, status_agrees, value_read}
use Rattle.machine.proofs.StrategyBack.{strategy_named_lem, kind_most, strategy_by_lem, parameters_read_lem, parameters_count}
use Rattle.machine.specs.declared.State.{State}
use Rattle.machine.specs.State.{present}

-- Reports.

-- the parts of a report, as written
parts_of_lem : (clock : ℕ) → clock ≤ 9999999999999 → (n : Sensor) (x : Sample)
    → parts_of (report clock n x) ≡ Some (record { time = clock; name = name_of n; status = status_for n x; value = value_for n x.number })
unfolding parts_of is_shaped report
parts_of_lem clock t n x =
    rw (
      times.back clock (le-leb clock 9999999999999 t),
      status_named_lem (status_for n x) (status_most n x),
      lt-ltb (status_for n x) 7 (status_most n x),
    )

-- what a report tells, limits apart
pub report_read_lem : (sheet : Sheet) → sensors_ok sheet ≡ true → (j : ℕ) → j < sheet.count → (clock : ℕ) → clock ≤ 9999999999999 → (x : Sample)
    → sample_ok (sensor_of sheet j) x ≡ true → report_read sheet (report clock (sensor_of sheet j) x) ≡ Reported j (told_of (sensor_of sheet j) clock x)
unfolding report_read report_on
report_read_lem sheet h j l clock t x ok =
    rw (
      parts_of_lem clock t n x,
      place_of_name sheet r j l,
      lt-ltb j sheet.count l,
      value_read n (r.sensor_is j l) x.number (sample_number n (r.sensor_is j l) x ok),
    )
  where
    r : Sensors sheet
    r = sensors_out sheet h

    n : Sensor
    n = sensor_of sheet j

pub news_report : (sheet : Sheet) → sensors_ok sheet ≡ true → (j : ℕ) → j < sheet.count → (clock : ℕ) → clock ≤ 9999999999999 → (x : Sample)
    → sample_ok (sensor_of sheet j) x ≡ true → news sheet (report clock (sensor_of sheet j) x) ≡ Reported j (told_of (sensor_of sheet j) clock x)
unfolding news report agreed
news_report sheet h j l clock t x ok = ap (agreed sheet) (report_read_lem sheet h j l clock t x ok)
    ∙ cond_true (agrees (sensor_of sheet j) (status_for (sensor_of sheet j) x) x.number) _ Impossible (status_agrees (sensor_of sheet j) x ok)

-- a report of such a state tells it
pub report_told_lem : (s : State) → sensors_ok s.sheet ≡ true → Reportable s → (j : ℕ) → j < s.sheet.count
    → news s.sheet (report_of s.sheet s j) ≡ Reported j (told_of (sensor_of s.sheet j) s.clock (present s j))
report_told_lem s h r j l = news_report s.sheet h j l s.clock r.clock_fits (present s j) (r.present_fits j l)

-- Sampling replies.

strategy_news_lem : (sheet : Sheet) (js : List ℕ) → any (not_on_sheet sheet) js ≡ false → twice js ≡ false → (st : Strategy)
    → strategy_ok (first_of sheet js).kind st ≡ true → all (λ j. strategy_ok (sensor_of sheet j).kind st) js ≡ true
    → strategy_news sheet js (strategy_text (strategy_kind st) ∷ parameter_texts (first_of sheet js) st) ≡ SetTo js st
unfolding strategy_news
strategy_news_lem sheet js known once st first each =
    rw (
      known,
      once,
      strategy_named_lem (strategy_kind st) (kind_most st),
      lt-ltb (strategy_kind st) 7 (kind_most st),
      parameters_count (first_of sheet js) st,
      eq-eqb (suc (parameter_count (strategy_kind st))) (1 + parameter_count (strategy_kind st)) (omega arith),
      parameters_read_lem (first_of sheet js) st first,
      strategy_by_lem st,
      each,
    )

first_all : (f : ℕ → Bool) (js : List ℕ) → 0 < length js → all f js ≡ true → f (get_or js 0 0) ≡ true
first_all f [] l h = absurd (omega arith)
first_all f (j ∷ js) l h = (and_true (f j) (all f js) h).0

pub news_sampling : (sheet : Sheet) → sensors_ok sheet ≡ true → (m : Message) → m.name ≡ text "sensor-sampling" → (names js : List ℕ)
    → map (place_of sheet) (split names) ≡ js → any (not_on_sheet sheet) js ≡ false → twice js ≡ false → (st : Strategy)
    → all (λ j. strategy_ok (sensor_of sheet j).kind st) js ≡ true → news sheet (sampling_reply m names (first_of sheet js) st) ≡ SetTo js st
unfolding news sampling_news sampling_reply
news_sampling sheet h m e names js p known once st each = rw (e, p) (strategy_news_lem sheet js known once st (first_all (λ j. strategy_ok (sensor_of sheet j).kind st) js some_listed each) each)
  where
    some_listed : 0 < length js
    some_listed = rw (← p, length-map (split names) (place_of sheet)) (split_some names)
