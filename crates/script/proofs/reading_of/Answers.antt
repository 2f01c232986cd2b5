-- The place of the word in the table of readings, by its arm.
use mathlib.Core.Path.{◌∙◌}
use Rattle.script.proofs.KindLaws.{by_kind, no_kind}
use Rattle.script.proofs.reading_of.Goals as goal

pub returns-in-Some-eq0 : goal.returns-in-Some-eq0
returns-in-Some-eq0 c = c.integer_of.ensures ∙ by_kind _ _ c.place_of.ensures 0 c.in-Some-eq0.is c.in-Some-eq0.field-0-test

pub returns-in-Some-eq1 : goal.returns-in-Some-eq1
returns-in-Some-eq1 c = c.float_of.ensures ∙ by_kind _ _ c.place_of.ensures 1 c.in-Some-eq1.is c.in-Some-eq1.field-0-test

pub returns-in-Some-eq2 : goal.returns-in-Some-eq2
returns-in-Some-eq2 c = c.boolean_of.ensures ∙ by_kind _ _ c.place_of.ensures 2 c.in-Some-eq2.is c.in-Some-eq2.field-0-test

pub returns-in-Some-eq3 : goal.returns-in-Some-eq3
returns-in-Some-eq3 c = c.option_of.ensures ∙ by_kind _ _ c.place_of.ensures 3 c.in-Some-eq3.is c.in-Some-eq3.field-0-test

pub returns-in-Some-eq4 : goal.returns-in-Some-eq4
returns-in-Some-eq4 c = c.timestamp_of.ensures ∙ by_kind _ _ c.place_of.ensures 4 c.in-Some-eq4.is c.in-Some-eq4.field-0-test

pub returns-in-Some-eq5 : goal.returns-in-Some-eq5
returns-in-Some-eq5 c = c.without_value.ensures ∙ by_kind _ _ c.place_of.ensures 5 c.in-Some-eq5.is c.in-Some-eq5.field-0-test

pub returns-in-Some-eq6 : goal.returns-in-Some-eq6
returns-in-Some-eq6 c = c.without_value-in-Some-eq6.ensures ∙ by_kind _ _ c.place_of.ensures 6 c.in-Some-eq6.is c.in-Some-eq6.field-0-test

pub returns-in-Some-eq7 : goal.returns-in-Some-eq7
returns-in-Some-eq7 c = c.without_value-in-Some-eq7.ensures ∙ by_kind _ _ c.place_of.ensures 7 c.in-Some-eq7.is c.in-Some-eq7.field-0-test

pub returns-in_default-2 : goal.returns-in_default-2
returns-in_default-2 c = no_kind _ _ c.place_of.ensures c.in_default.is
