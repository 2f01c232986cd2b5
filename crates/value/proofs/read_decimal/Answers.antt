-- The parts are those of the definitions, and each way out is one of its tests.
use Prim.Native.Nat.{ℕ, ◌+◌, ◌-◌, ◌*◌, ◌^◌, ◌≤◌, min}
use native.Mathlib.Omega.{arith}
use mathlib.Core.Path.{◌≡◌, ap, ap₂, sym, ◌∙◌}
use mathlib.Core.Bool.{true, ◌&&◌}
use mathlib.Core.List.{List, ◌++◌}
use lib.ListN.{length, drop}
use Rattle.output.specs.Read.{value_from}
use Rattle.value.specs.Parameter.{whole, whole_ok, fraction_ok, plain_decimal, fraction}
use Rattle.value.proofs.DecimalLaws.{not_plain, too_long, out_is, in_is}
use Rattle.value.proofs.read_decimal.Goals as goal

pub returns-then-not-plain : goal.returns-then-not-plain
returns-then-not-plain c = let plain : c.whole_ok.result && c.fraction_ok.result ≡ plain_decimal c.args.t.now = ap₂ ◌&&◌ (c.whole_ok.ensures ∙ ap whole_ok c.digits-whole.ensures) (c.fraction_ok.ensures ∙ ap fraction_ok c.behind_digits-behind.ensures) in
    let s = c.args in
    not_plain s.places s.least s.most s.t.now (sym plain ∙ c.if-not-plain.true)

pub returns-then-places-fraction : goal.returns-then-places-fraction
returns-then-places-fraction c = let plain : c.whole_ok.result && c.fraction_ok.result ≡ plain_decimal c.args.t.now = ap₂ ◌&&◌ (c.whole_ok.ensures ∙ ap whole_ok c.digits-whole.ensures) (c.fraction_ok.ensures ∙ ap fraction_ok c.behind_digits-behind.ensures) in
    let is_plain : plain_decimal c.args.t.now ≡ true = sym plain ∙ c.if-not-plain.false in
    let behind : c.rest-fraction.result.now ≡ fraction c.args.t.now = c.rest-fraction.ensures ∙ ap (drop 1) c.behind_digits-behind.ensures in
    let s = c.args in
    too_long s.places s.least s.most s.t.now is_plain (omega (arith, c.if-places-fraction.true, ap length behind))

pub returns-then-number-least : goal.returns-then-number-least
returns-then-number-least c = let plain : c.whole_ok.result && c.fraction_ok.result ≡ plain_decimal c.args.t.now = ap₂ ◌&&◌ (c.whole_ok.ensures ∙ ap whole_ok c.digits-whole.ensures) (c.fraction_ok.ensures ∙ ap fraction_ok c.behind_digits-behind.ensures) in
    let is_plain : plain_decimal c.args.t.now ≡ true = sym plain ∙ c.if-not-plain.false in
    let behind : c.rest-fraction.result.now ≡ fraction c.args.t.now = c.rest-fraction.ensures ∙ ap (drop 1) c.behind_digits-behind.ensures in
    let short : length (fraction c.args.t.now) ≤ c.args.places = omega (arith, c.if-places-fraction.false, ap length behind) in
    let digits : c.both_value-digits.result ≡ min (value_from 0 (whole c.args.t.now ++ fraction c.args.t.now)) (c.args.most + 1) = c.both_value-digits.ensures ∙ ap₂ (λ (a b : List ℕ). min (value_from 0 (a ++ b)) (c.args.most + 1)) c.digits-whole.ensures behind in
    let number : c.with_zeros-number.result ≡ min (c.both_value-digits.result * 10 ^ (c.args.places - length (fraction c.args.t.now))) (c.args.most + 1) = c.with_zeros-number.ensures ∙ ap (λ (f : List ℕ). min (c.both_value-digits.result * 10 ^ (c.args.places - length f)) (c.args.most + 1)) behind in
    let s = c.args in out_is s.places s.least s.most s.t.now is_plain short c.both_value-digits.result c.with_zeros-number.result digits number c.if-number-least.true

pub returns : goal.returns
returns c = let plain : c.whole_ok.result && c.fraction_ok.result ≡ plain_decimal c.args.t.now = ap₂ ◌&&◌ (c.whole_ok.ensures ∙ ap whole_ok c.digits-whole.ensures) (c.fraction_ok.ensures ∙ ap fraction_ok c.behind_digits-behind.ensures) in
    let is_plain : plain_decimal c.args.t.now ≡ true = sym plain ∙ c.if-not-plain.false in
    let behind : c.rest-fraction.result.now ≡ fraction c.args.t.now = c.rest-fraction.ensures ∙ ap (drop 1) c.behind_digits-behind.ensures in
    let short : length (fraction c.args.t.now) ≤ c.args.places = omega (arith, c.if-places-fraction.false, ap length behind) in
    let digits : c.both_value-digits.result ≡ min (value_from 0 (whole c.args.t.now ++ fraction c.args.t.now)) (c.args.most + 1) = c.both_value-digits.ensures ∙ ap₂ (λ (a b : List ℕ). min (value_from 0 (a ++ b)) (c.args.most + 1)) c.digits-whole.ensures behind in
    let number : c.with_zeros-number.result ≡ min (c.both_value-digits.result * 10 ^ (c.args.places - length (fraction c.args.t.now))) (c.args.most + 1) = c.with_zeros-number.ensures ∙ ap (λ (f : List ℕ). min (c.both_value-digits.result * 10 ^ (c.args.places - length f)) (c.args.most + 1)) behind in
    let s = c.args in in_is s.places s.least s.most s.t.now is_plain short c.both_value-digits.result c.with_zeros-number.result digits number c.if-number-least.false
