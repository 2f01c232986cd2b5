-- A sample's status and value, read back from their texts.
use Prim.Native.Nat.{ℕ, ◌^◌, ◌<◌}
use mathlib.Core.Path.{◌≡◌, refl, ap, sym, ◌∙◌}
use mathlib.Core.Bool.{Bool, true, false, cond, ◌&&◌}
use Rattle.std.specs.Prelude.{Some}
use lib.Dec.{eqb, leb, ltb}
use borrow.Author.Tests.{lt-ltb, le-leb, eqb-true, eq-eqb, ltb-true}
use Rattle.output.specs.Text.{same}
use Rattle.output.specs.Number.{decimal, time, integer, float}
use Rattle.output.specs.Read.{read_time, read_integer, read_float, read_boolean}
use Rattle.output.proofs.TextLaws.{same_refl, same_true}
use Rattle.output.proofs.ReadBack.{booleans, times, integers, floats}
use Rattle.value.specs.declared.Sample.{Sample}
use Rattle.value.specs.Reading.{zero_of, number_fits, sample_fits}
use Rattle.value.specs.Status.{range_status, status_text}
use Rattle.value.specs.Value.{value_text}
use Rattle.machine.specs.declared.Sensor.{Sensor}
use Rattle.machine.specs.Places.{all_below, first_below}
use Rattle.machine.specs.Sheet.{option_of}
use Rattle.machine.specs.Range.{sample_ok}
use Rattle.machine.specs.Messages.{status_for, value_for}
use Rattle.machine.specs.Reader.{status_named, option_named, read_option, read_value, valid_status, agrees}
use Rattle.machine.proofs.TestLaws.{and_true, and_in, cond_true, cond_false}
use Rattle.machine.proofs.PlacesLaws.{below_at, first_is}
use Rattle.machine.proofs.SheetLaws.{SensorRules}
use Rattle.machine.proofs.SampleRange.{range_valid, status_valid, valid_is}

status_words : all_below (λ k. eqb (status_named (status_text k)) k) 7 ≡ true
unfolding all_below first_below status_named status_text
status_words = refl

pub status_named_lem : (k : ℕ) → k < 7 → status_named (status_text k) ≡ k
status_named_lem k h = eqb-true _ k (below_at (λ k. eqb (status_named (status_text k)) k) 7 k status_words h)

-- Statuses.

range_agrees : (n : Sensor) (v : ℕ) → agrees n (range_status n.limits v) v ≡ true
unfolding agrees
range_agrees n v = cond_true (valid_status st) (eqb st st) (eqb v (zero_of n.kind)) valid ∙ eq-eqb st st refl
  where
    st : ℕ
    st = range_status n.limits v

    valid : valid_status st ≡ true
    valid = and_in (leb 1 st) (leb st 3) (le-leb 1 st (range_valid n.limits v).0) (le-leb st 3 (range_valid n.limits v).1)

zero_agrees : (n : Sensor) (st v : ℕ) → valid_status st ≡ false → eqb v (zero_of n.kind) ≡ true → agrees n st v ≡ true
unfolding agrees
zero_agrees n st v h e = cond_false (valid_status st) (eqb (range_status n.limits v) st) (eqb v (zero_of n.kind)) h ∙ e

-- a status comes with its value
pub status_agrees : (n : Sensor) (x : Sample) → sample_ok n x ≡ true → agrees n (status_for n x) x.number ≡ true
unfolding sample_fits
status_agrees n x h = go (eqb x.kind 1) refl h
  where
    go : (b : Bool) → eqb x.kind 1 ≡ b → cond b (number_fits n.kind n.option_count x.number) (leb x.kind 4 && eqb x.number (zero_of n.kind)) ≡ true
        → agrees n (status_for n x) x.number ≡ true
    go true e k = ap (λ st. agrees n st x.number) (status_valid n x (eqb-true x.kind 1 e)) ∙ range_agrees n x.number
    go false e k = zero_agrees n (status_for n x) x.number (sym (valid_is n x) ∙ e) (and_true (leb x.kind 4) (eqb x.number (zero_of n.kind)) k).1

-- Values.

-- an option is found by its text
option_named_lem : (n : Sensor) → SensorRules n → (v : ℕ) → v < n.option_count → option_named n (option_of n v) ≡ v
unfolding option_named
option_named_lem n r v h = first_is (λ k. same (option_of n k) (option_of n v)) n.option_count v h (same_refl (option_of n v))
    (λ k l e. r.options_are.options_differ k v l h (same_true (option_of n k) (option_of n v) e))

option_read : (n : Sensor) → SensorRules n → (v : ℕ) → v < n.option_count → read_option n (option_of n v) ≡ Some v
unfolding read_option
option_read n r v h = rw (option_named_lem n r v h, lt-ltb v n.option_count h)

-- a value of a sensor reads back
pub value_read : (n : Sensor) → SensorRules n → (v : ℕ) → number_fits n.kind n.option_count v ≡ true → read_value n (value_for n v) ≡ Some v
unfolding read_value value_for value_text number_fits
value_read n r v h = go (eqb n.kind 1) (eqb n.kind 2) (eqb n.kind 3) (eqb n.kind 4) h
  where
    go : (a b c d : Bool) → cond a (ltb v (2 ^ 32)) (cond b (leb v (2 ^ 31)) (cond c (leb v 1) (cond d (ltb v n.option_count) (leb v 9999999999999)))) ≡ true
        → cond a (read_integer (cond a (integer v) (cond b (float v) (cond c (decimal v) (cond d (option_of n v) (time v))))))
        (cond b (read_float (cond a (integer v) (cond b (float v) (cond c (decimal v) (cond d (option_of n v) (time v))))))
        (cond c (read_boolean (cond a (integer v) (cond b (float v) (cond c (decimal v) (cond d (option_of n v) (time v))))))
        (cond d (read_option n (cond a (integer v) (cond b (float v) (cond c (decimal v) (cond d (option_of n v) (time v))))))
        (read_time (cond a (integer v) (cond b (float v) (cond c (decimal v) (cond d (option_of n v) (time v))))))))) ≡ Some v
    go true b c d k = integers.back v k
    go false true c d k = floats.back v k
    go false false true d k = booleans.back v k
    go false false false true k = option_read n r v (ltb-true v n.option_count k)
    go false false false false k = times.back v k
