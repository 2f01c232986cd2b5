-- Demand 3: two devices of one sheet whose archives got the same bytes since they last connected.
use Prim.Native.Nat.{ℕ, ◌*◌, ◌≤◌, ◌<◌}
use native.Mathlib.Omega.{arith}
use mathlib.Core.Path.{◌≡◌, refl, ap, sym, ◌∙◌, subst, subst₂}
use mathlib.Core.Bool.{Bool, true, false}
use mathlib.Core.List.{map}
use Rattle.std.specs.Prelude.{Option, Some}
use Rattle.message.specs.Message.{line}
use Rattle.value.specs.declared.Sample.{Sample}
use Rattle.machine.specs.declared.Sensor.{Sensor}
use Rattle.machine.specs.declared.Strategy.{Strategy}
use Rattle.machine.specs.declared.Strategy.TheVariants.{None, Auto, Period, Event, Differential, EventRate, DifferentialRate}
use Rattle.machine.specs.Places.{joined}
use Rattle.machine.specs.Sheet.{sensor_of}
use Rattle.machine.specs.Range.{is_none}
use Rattle.machine.specs.Messages.{status_for}
use Rattle.machine.specs.Report.{is_valid, apart, width}
use Rattle.machine.specs.Reader.{Told, valid_status}
use Rattle.machine.specs.TwoDevices.{Alike, Device, Equal, Held, Holds, Passed, Shared, TwoDevices, Within, archive_connected, clock, history, last_report, lines_of, messages, reading, report, sheet_of, strategy}
use Rattle.machine.specs.Tells.{file_view, Same, Near, Known, TellsAt}
use Rattle.machine.specs.Claims.{Viewed}
use Rattle.machine.proofs.FileLaws.{file_apart}
use Rattle.machine.proofs.ListLaws.{clock_is, stored_by}
use Rattle.machine.proofs.ArchiveLaws.{lines_are}
use Rattle.machine.proofs.TellsLaws.{sheet_rules, well, view_held, strategy_held, report_held, reading_held, tells}
use Rattle.machine.proofs.SampleRange.{valid_is}
use Rattle.machine.proofs.RangeLaws.{none_is}
use Rattle.machine.specs.Opening.{Start}

-- Two readings known from one report.

triangle : (x y r w : ℕ) → apart x r * 1000000 ≤ w → apart y r * 1000000 ≤ w → apart x y * 1000000 ≤ 2 * w
triangle x y r w h k = omega arith

module _ (n : Sensor) (now₁ now₂ : ℕ) (x y : Sample) where
  equal_of : (r : Told) → Same n x r → Same n y r → Equal n x y
  equal_of r k l = (k.0 ∙ sym l.0, k.1 ∙ sym l.1)

  within_of : (d : ℕ) (r : Told) → Near n d x r → Near n d y r → Within n d x y
  within_of d r k l = (e, λ v. triangle x.number y.number r.value (width n d) (k.1 v) (l.1 (valid v)))
    where
      e : status_for n x ≡ status_for n y
      e = k.0 ∙ sym l.0

      valid : is_valid x ≡ true → is_valid y ≡ true
      valid v = valid_is n y ∙ (ap valid_status (sym e) ∙ (sym (valid_is n x) ∙ v))

  alike_of : (st : Strategy) (r : Told) → Known n now₁ x st r → Known n now₂ y st r
      → Alike n st (λ s. Passed s now₁ (Some r) × Passed s now₂ (Some r)) x y
  alike_of None r k l = tt
  alike_of Auto r k l = equal_of r k l
  alike_of (Period p) r k l = tt
  alike_of Event r k l = equal_of r k l
  alike_of (Differential d) r k l = within_of d r k l
  alike_of (EventRate s m) r k l = λ h. equal_of r (k h.0) (l h.1)
  alike_of (DifferentialRate d s m) r k l = λ h. within_of d r (k h.0) (l h.1)

-- for the two devices' own strategies and reports, which are equal
alike_both : (n : Sensor) (now₁ now₂ : ℕ) (x y : Sample) (st st' : Strategy) (o o' : Option Told) (r t : Told)
    → st ≡ st' → o ≡ o' → o ≡ Some r → o' ≡ Some t → Known n now₁ x st r → Known n now₂ y st' t
    → Alike n st (λ s. Passed s now₁ o × Passed s now₂ o') x y
alike_both n now₁ now₂ x y st st' o o' r t e w p q k l =
    subst₂ (λ (a b : Option Told). Alike n st (λ s. Passed s now₁ a × Passed s now₂ b) x y) (sym p) (sym q') (alike_of n now₁ now₂ x y st r k l')
  where
    one : t ≡ r
    one = cc

    q' : o' ≡ Some r
    q' = cc

    l' : Known n now₂ y st r
    l' = rw (e, ← one) l

-- nothing is claimed under none
unless_none : (n : Sensor) (st : Strategy) (passed : ℕ → Type 0) (x y : Sample) → (is_none st ≡ false → Alike n st passed x y) → Alike n st passed x y
unless_none n st passed x y h = go (is_none st) refl
  where
    go : (b : Bool) → is_none st ≡ b → Alike n st passed x y
    go true e = subst (λ k. Alike n k passed x y) (sym (none_is st e)) tt
    go false e = h e

-- One device.

module _ (start : Start) (d : Device) (c : archive_connected start d ≡ true) (j : ℕ) (h : j < (sheet_of start).count) where
  holds : Holds start d j
  holds = record {
    strategy_held = strategy_held start d.archive (history start d) c j h;
    report_held = report_held start d.archive (history start d) c j h;
    reading_held = reading_held start d.archive (history start d) c j h;
    time_held = (stored_by start j (omega (arith, (sheet_rules start).count_most)) h (history start d)).time_is;
    clock_held = clock_is start (history start d);
  }

  -- what the archive knows
  knows : is_none (strategy start d j) ≡ false → (r : Told) × ((report start d j ≡ Some r)
      × Known (sensor_of (sheet_of start) j) (clock start d) (reading start d j) (strategy start d j) r)
  knows e = let r = t.reading_told.was_reported (ap is_none t.strategy_told ∙ e) in
      (r.0, (sym t.report_told_lem ∙ r.1, subst (λ st. Known (sensor_of (sheet_of start) j) (clock start d) (reading start d j) st r.0) t.strategy_told (t.reading_told.tells r.0 r.1 (clock start d) (omega arith))))
    where
      t : TellsAt start d.archive (history start d) j
      t = tells start d.archive (history start d) c j h

-- "The state a list ends with holds .."
pub held : Held
held start d c j h = holds start d c j h

-- the reader is right
pub viewed : Viewed
viewed start d c j h = sym (view_held start d.archive (history start d) c j h)

-- demand 3
pub two_devices : TwoDevices
two_devices start d e cd ce f = (same, shared)
  where
    same : messages start d ≡ messages start e
    same = file_apart _ _ (well start d.archive (history start d)) (well start e.archive (history start e))
        (sym (ap joined (lines_are start d.archive (history start d))) ∙ (f ∙ ap joined (lines_are start e.archive (history start e))))

    lines : lines_of start d.archive (history start d) ≡ lines_of start e.archive (history start e)
    lines = lines_are start d.archive (history start d) ∙ (ap (map line) same ∙ sym (lines_are start e.archive (history start e)))

    reports : (j : ℕ) → report start d j ≡ report start e j
    reports j = ap (last_report (sheet_of start) j) lines

    strategies : (j : ℕ) → j < (sheet_of start).count → strategy start d j ≡ strategy start e j
    strategies j h = sym (tells start d.archive (history start d) cd j h).strategy_told
        ∙ (ap (λ ls. (file_view (sheet_of start) j ls).strategy) lines ∙ (tells start e.archive (history start e) ce j h).strategy_told)

    shared : (j : ℕ) → j < (sheet_of start).count → Shared start d e j
    shared j h = record {
      same_strategy = strategies j h;
      same_report = reports j;
      was_reported = λ q. let k = knows start d cd j h q in (k.0, k.1.0);
      alike = unless_none (sensor_of (sheet_of start) j) (strategy start d j)
          (λ s. Passed s (clock start d) (report start d j) × Passed s (clock start e) (report start e j)) (reading start d j) (reading start e j)
          (λ q. let k = knows start d cd j h q in let l = knows start e ce j h (ap is_none (sym (strategies j h)) ∙ q) in
          alike_both (sensor_of (sheet_of start) j) (clock start d) (clock start e) (reading start d j) (reading start e j)
          (strategy start d j) (strategy start e j) (report start d j) (report start e j) k.0 l.0
          (strategies j h) (reports j) k.1.0 l.1.0 k.1.1 l.1.1);
    }
