-- The parts are those of the definition, and each way out is one of its tests.
use mathlib.Core.Path.{◌≡◌}
use mathlib.Core.Bool.{true}
use Rattle.scientific.proofs.ReadLaws as laws
use Rattle.scientific.proofs.read_millionths.Goals as goal

pub returns-then-not-is_scientific : goal.returns-then-not-is_scientific
returns-then-not-is_scientific c = let parts : laws.Parts c.args.t.now c.digits-whole.result.now c.digits-fraction.result.now c.behind_digits-exponent.result.now = laws.parts c.behind_sign-unsigned.ensures c.digits-whole.ensures c.behind_digits.ensures c.behind_point-behind.ensures c.digits-fraction.ensures c.behind_digits-exponent.ensures in
    laws.no_form parts c.is_scientific.ensures c.if-not-is_scientific.true

pub millionths-requires : goal.millionths-requires
millionths-requires c = let parts : laws.Parts c.args.t.now c.digits-whole.result.now c.digits-fraction.result.now c.behind_digits-exponent.result.now = laws.parts c.behind_sign-unsigned.ensures c.digits-whole.ensures c.behind_digits.ensures c.behind_point-behind.ensures c.digits-fraction.ensures c.behind_digits-exponent.ensures in
    let is-form : c.is_scientific.result ≡ true = c.if-not-is_scientific.false in
    (laws.parts_digits parts, laws.exponent_good parts c.is_scientific.ensures is-form)

pub returns : goal.returns
returns c = let parts : laws.Parts c.args.t.now c.digits-whole.result.now c.digits-fraction.result.now c.behind_digits-exponent.result.now = laws.parts c.behind_sign-unsigned.ensures c.digits-whole.ensures c.behind_digits.ensures c.behind_point-behind.ensures c.digits-fraction.ensures c.behind_digits-exponent.ensures in
    let is-form : c.is_scientific.result ≡ true = c.if-not-is_scientific.false in
    laws.judged parts c.is_scientific.ensures is-form c.millionths.ensures c.begins.ensures c.judged.ensures
