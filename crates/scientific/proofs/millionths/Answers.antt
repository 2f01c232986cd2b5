-- An exponent moves the point to one side.
use mathlib.Core.Path.{◌∙◌}
use mathlib.Core.List.{◌++◌}
use lib.ListN.{length}
use Rattle.output.specs.Read.{value_from}
use Rattle.scientific.proofs.ReadLaws.{to_left, to_right}
use Rattle.scientific.proofs.millionths.Goals as goal

pub returns-then-begins : goal.returns-then-begins
returns-then-begins c = c.shifted.ensures
    ∙ to_left (value_from 0 (c.args.whole.now ++ c.args.fraction.now)) (length c.args.fraction.now) c.args.exponent.now c.requires.1
    c.exponent_digits.ensures c.digits_value-size.ensures c.rest.ensures c.begins.ensures c.if-begins.true

pub returns : goal.returns
returns c = c.shifted-2.ensures
    ∙ to_right (value_from 0 (c.args.whole.now ++ c.args.fraction.now)) (length c.args.fraction.now) c.args.exponent.now c.requires.1
    c.exponent_digits.ensures c.digits_value-size.ensures c.rest.ensures c.begins.ensures c.if-begins.false
