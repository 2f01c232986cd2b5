-- Samples that a sensor can have: their numbers and statuses; those of a state, after a tick and after a reading.
use Rattle.std.specs.Prelude.{Some, None, Option}
use Prim.Native.Nat.{ℕ, ◌^◌, ◌≤◌, ◌<◌}
use native.Mathlib.Omega.{arith}
use mathlib.Core.Path.{◌≡◌, refl, sym, subst}
use mathlib.Core.Bool.{Bool, true, false, cond, ◌&&◌}
use lib.Dec.{eqb, leb, ltb}
use borrow.Author.Tests.{eqb-true, lt-ltb}
use Rattle.value.specs.declared.Limits.{Limits}
use Rattle.value.specs.declared.Sample.{Sample}
use Rattle.value.specs.Reading.{zero_of, sample_of, number_fits, sample_fits}
use Rattle.value.specs.Status.{is_nominal, is_warn, range_status, status_of}
use Rattle.value.proofs.SampleLaws.{sample_fits_lem, fresh_fits}
use Rattle.machine.specs.declared.Sensor.{Sensor}
use Rattle.machine.specs.declared.Stored.{Stored}
use Rattle.machine.specs.declared.State.{State}
use Rattle.machine.specs.Sheet.{sensor_of}
use Rattle.machine.specs.State.{stored_of, present, is_unknown, with_clock, with_reading}
use Rattle.machine.specs.Range.{sample_ok}
use Rattle.machine.specs.Messages.{status_for}
use Rattle.machine.specs.Report.{is_valid}
use Rattle.machine.specs.Declined.{Arrival}
use Rattle.machine.specs.Machine.{sample_in, sample_given}
use Rattle.machine.specs.Reader.{valid_status}
use Rattle.machine.proofs.TestLaws.{and_true}
use Rattle.machine.proofs.StateLaws.{stored_after}
use Rattle.machine.proofs.SheetLaws.{SensorRules}
use Rattle.machine.proofs.RangeLaws.{InRange, stored_is, sensors_of}

-- Numbers.

-- the type's zero is a number of the type
zero_fits : (n : Sensor) → SensorRules n → number_fits n.kind n.option_count (zero_of n.kind) ≡ true
unfolding number_fits zero_of
zero_fits n r = go (eqb n.kind 1) (eqb n.kind 2) (eqb n.kind 3) (eqb n.kind 4) refl
  where
    go : (a b c d : Bool) → eqb n.kind 4 ≡ d → cond a (ltb (cond a (2 ^ 31) (cond b (2 ^ 30) 0)) (2 ^ 32)) (cond b (leb (cond a (2 ^ 31) (cond b (2 ^ 30) 0)) (2 ^ 31))
        (cond c (leb (cond a (2 ^ 31) (cond b (2 ^ 30) 0)) 1) (cond d (ltb (cond a (2 ^ 31) (cond b (2 ^ 30) 0)) n.option_count) (leb (cond a (2 ^ 31) (cond b (2 ^ 30) 0)) 9999999999999)))) ≡ true
    go true b c d e = refl
    go false true c d e = refl
    go false false true d e = refl
    go false false false true e = lt-ltb 0 n.option_count (r.options_are.some (eqb-true n.kind 4 e))
    go false false false false e = refl

pub sample_number : (n : Sensor) → SensorRules n → (x : Sample) → sample_ok n x ≡ true → number_fits n.kind n.option_count x.number ≡ true
unfolding sample_fits
sample_number n r x h = go (eqb x.kind 1) h
  where
    go : (b : Bool) → cond b (number_fits n.kind n.option_count x.number) (leb x.kind 4 && eqb x.number (zero_of n.kind)) ≡ true
        → number_fits n.kind n.option_count x.number ≡ true
    go true k = k
    go false k = rw (eqb-true x.number (zero_of n.kind) (and_true (leb x.kind 4) (eqb x.number (zero_of n.kind)) k).1) (zero_fits n r)

-- Statuses.

pub range_valid : (l : Limits) (v : ℕ) → (1 ≤ range_status l v) × (range_status l v ≤ 3)
range_valid l v = go (is_nominal l v) (is_warn l v)
  where
    go : (a b : Bool) → (1 ≤ cond a 1 (cond b 2 3)) × (cond a 1 (cond b 2 3) ≤ 3)
    go true b = (omega arith, omega arith)
    go false true = (omega arith, omega arith)
    go false false = (omega arith, omega arith)

pub status_valid : (n : Sensor) (x : Sample) → x.kind ≡ 1 → status_for n x ≡ range_status n.limits x.number
unfolding status_of
status_valid n x e = rw e

-- every status is in Table 8
pub status_most : (n : Sensor) (x : Sample) → status_for n x < 7
unfolding status_of
status_most n x = go (eqb x.kind 0) (eqb x.kind 1) (eqb x.kind 2) (eqb x.kind 3)
  where
    r : range_status n.limits x.number ≤ 3
    r = (range_valid n.limits x.number).1

    go : (a b c d : Bool) → cond a 0 (cond b (range_status n.limits x.number) (cond c 4 (cond d 5 6))) < 7
    go true b c d = omega arith
    go false true c d = omega (arith, r)
    go false false true d = omega arith
    go false false false true = omega arith
    go false false false false = omega arith

-- no other quality than 0 has the status unknown
pub unknown_is : (n : Sensor) (x : Sample) → status_for n x ≡ 0 → is_unknown x ≡ true
unfolding status_of
unknown_is n x = go (eqb x.kind 0) (eqb x.kind 1) (eqb x.kind 2) (eqb x.kind 3)
  where
    r : 1 ≤ range_status n.limits x.number
    r = (range_valid n.limits x.number).0

    go : (a b c d : Bool) → cond a 0 (cond b (range_status n.limits x.number) (cond c 4 (cond d 5 6))) ≡ 0 → a ≡ true
    go true b c d e = refl
    go false true c d e = absurd (omega (arith, r, e))
    go false false true d e = absurd (omega (arith, e))
    go false false false true e = absurd (omega (arith, e))
    go false false false false e = absurd (omega (arith, e))

-- a sample is valid exactly where its status is
pub valid_is : (n : Sensor) (x : Sample) → is_valid x ≡ valid_status (status_for n x)
unfolding status_of
valid_is n x = go (eqb x.kind 0) (eqb x.kind 1) (eqb x.kind 2) (eqb x.kind 3) (is_nominal n.limits x.number) (is_warn n.limits x.number) refl refl
  where
    go : (a b c d e f : Bool) → eqb x.kind 0 ≡ a → eqb x.kind 1 ≡ b → b ≡ valid_status (cond a 0 (cond b (cond e 1 (cond f 2 3)) (cond c 4 (cond d 5 6))))
    go true true c d e f p q = absurd (omega (arith, eqb-true x.kind 0 p, eqb-true x.kind 1 q))
    go true false c d e f p q = refl
    go false true c d true f p q = refl
    go false true c d false true p q = refl
    go false true c d false false p q = refl
    go false false true d e f p q = refl
    go false false false true e f p q = refl
    go false false false false e f p q = refl

-- States.

-- what a sensor's reading becomes
pub given_fits : (n : Sensor) (g : Arrival) → sample_ok n (sample_given n g) ≡ true
unfolding sample_given
given_fits n g = go (sample_of n.kind n.option_count g.reading) refl
  where
    go : (a : Option Sample) → sample_of n.kind n.option_count g.reading ≡ a → sample_ok n (sample_in n.kind a) ≡ true
    go (Some x) e = sample_fits_lem n.kind n.option_count g.reading x e
    go None e = fresh_fits n.kind n.option_count

-- the clock and the readings of a state can be reported
pub record Reportable (s : State) : Type 0 where
  pub clock_fits : s.clock ≤ 9999999999999
  pub present_fits : (j : ℕ) → j < s.sheet.count → sample_ok (sensor_of s.sheet j) (present s j) ≡ true

module _ (s : State) (r : InRange s) where
  below_most : (j : ℕ) → j < s.sheet.count → j < 32
  below_most j l = omega (arith, (sensors_of s r).count_most)

  pub reportable : Reportable s
  reportable = record { clock_fits = r.clock_in_lem; present_fits = λ j l. (stored_is s r j l (below_most j l)).0 }

  pub reportable_tick : (t : ℕ) → t ≤ 9999999999999 → Reportable (with_clock s t)
  reportable_tick t h = record { clock_fits = h; present_fits = reportable.present_fits }

  pub reportable_reading : (j : ℕ) (x : Stored) → sample_ok (sensor_of s.sheet j) x.sample ≡ true → Reportable (with_reading s j x)
  unfolding with_reading
  reportable_reading j x ok = record {
    clock_fits = r.clock_in_lem;
    present_fits = λ i l. subst (λ (y : Stored). sample_ok (sensor_of s.sheet i) y.sample ≡ true)
        (sym (stored_after s j i x (below_most i l))) (go i l (eqb i j) refl);
  }
    where
      go : (i : ℕ) → i < s.sheet.count → (b : Bool) → eqb i j ≡ b
          → sample_ok (sensor_of s.sheet i) (cond b x (stored_of s i)).sample ≡ true
      go i l true e = subst (λ i. sample_ok (sensor_of s.sheet i) x.sample ≡ true) (sym (eqb-true i j e)) ok
      go i l false e = reportable.present_fits i l
