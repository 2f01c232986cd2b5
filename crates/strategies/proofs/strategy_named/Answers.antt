-- The kind at the place of the word in the table of strategies.
use mathlib.Core.Path.{◌∙◌}
use Rattle.texts.proofs.TableLaws.{copied_at}
use Rattle.strategies.proofs.KindLaws.{kinds, named_none, named_some}
use Rattle.strategies.proofs.strategy_named.Goals as goal

pub returns-in_err-place : goal.returns-in_err-place
returns-in_err-place c = rw c.from_residual.ensures (named_none c.args.word.now c.place_of.ensures c.in_err-place.was)

pub returns : goal.returns
returns c = named_some c.args.word.now c.place_of.ensures c.in_ok-place.place c.in_ok-place.was (c.copied.ensures ∙ copied_at kinds c.in_ok-place.place c.get.result c.get.ensures.lookup)
