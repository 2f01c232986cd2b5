-- The reply, under the name and id of the line; the level is the one that it tells, and no row declines it.
use mathlib.Core.List.{[], ◌∷◌}
use mathlib.Core.Path.{◌∙◌}
use Rattle.std.proofs.lemmas.Result.{IfOk-at_ok}
use Rattle.output.specs.Text.{text}
use Rattle.machine.specs.State.{with_level}
use Rattle.machine.specs.Messages.{level_text}
use Rattle.machine.specs.Requests.{answer}
use Rattle.machine.specs.Declined.{arguments_declined}
use Rattle.request.proofs.RowLaws.{accepted}
use Rattle.request.proofs.TellLaws.{replies}
use Rattle.request.proofs.log_level.Goals as goal

pub unwrap-level-requires : goal.unwrap-level-requires
unfolding arguments_declined
unwrap-level-requires c = accepted c.level_asked.result (c.level_asked.ensures.number ∙ c.requires.fits)

pub returns : goal.returns
unfolding answer
returns c = rw (← (IfOk-at_ok _ c.unwrap-level.ensures c.level_asked.ensures.level)) (replies c.args.asked.line.now c.args.asked.head c.args.asked.read c.name-name.ensures (with_level c.args.state c.unwrap-level.result) c.args.client (text "ok" ∷ level_text c.unwrap-level.result ∷ []) c.deliver_level-written.ensures c.answered.ensures)
