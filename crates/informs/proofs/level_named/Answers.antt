-- The place of the word in the table of levels.
use mathlib.Core.Path.{sym, ap, ◌∙◌}
use Rattle.output.specs.Text.{text}
use Rattle.texts.specs.Table.{word_of, below}
use Rattle.machine.specs.Messages.{level_text}
use Rattle.machine.specs.Requests.{level_of}
use Rattle.machine.proofs.WordTables.{place_first}
use Rattle.informs.proofs.level_named.Goals as goal

pub returns-in_err-level : goal.returns-in_err-level
unfolding level_of level_text word_of
returns-in_err-level c = c.from_residual.ensures ∙ (sym c.in_err-level.was ∙ c.place_of.ensures ∙ ap (below 8) (place_first (text "off|fatal|error|warn|info|debug|trace|all") _))

pub returns : goal.returns
unfolding level_of level_text word_of
returns c = sym c.in_ok-level.was ∙ c.place_of.ensures ∙ ap (below 8) (place_first (text "off|fatal|error|warn|info|debug|trace|all") _)
