-- Whether one of them is not measured.
use borrow.Author.Rules.{rules}
use borrow.Author.Tests.{tests}
use mathlib.Core.Path.{◌∙◌}
use mathlib.Core.Bool.{not}
use Rattle.std.proofs.lemmas.Iterator.{YieldsList-from_slice}
use Rattle.std.proofs.lemmas.Iterator.Search.{any_from_yields_List}
use Rattle.value.specs.Reading.{is_measured}
use Rattle.machine.specs.Sheet.{sensor_of}
use Rattle.machine.proofs.FoundLaws.{found_any}
use Rattle.strategies.proofs.is_unmeasured.Goals as goal

pub returns : goal.returns
returns c =
    any_from_yields_List (λ j. not (is_measured (sensor_of c.args.sheet.now j).kind)) _ _ _ c.any.ensures.ran (YieldsList-from_slice c.args.places.now cc) (λ x b q k. search (rules, tests))
    ∙ found_any _ c.args.places.now
