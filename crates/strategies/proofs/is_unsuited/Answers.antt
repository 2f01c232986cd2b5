-- Whether it is bad for one of them.
use borrow.Author.Rules.{rules}
use borrow.Author.Tests.{tests}
use mathlib.Core.Path.{◌∙◌}
use Rattle.std.proofs.lemmas.Iterator.{YieldsList-from_slice}
use Rattle.std.proofs.lemmas.Iterator.Search.{any_from_yields_List}
use Rattle.machine.specs.Sheet.{sensor_of}
use Rattle.machine.specs.Requests.{is_bad, difference_for}
use Rattle.machine.proofs.FoundLaws.{found_any}
use Rattle.strategies.proofs.TypeLaws.{none_bad}
use Rattle.strategies.proofs.is_unsuited.Goals as goal

pub returns : goal.returns
unfolding difference_for
returns c =
    any_from_yields_List (λ j. is_bad (difference_for (sensor_of c.args.sheet.now j) c.args.text.now)) _ _ _ c.any.ensures.ran (YieldsList-from_slice c.args.places.now cc)
    (λ x b q k. search (rules, tests, none_bad))
    ∙ found_any _ c.args.places.now
