-- The count of the head is that of the message's arguments.
use mathlib.Core.Path.{ap, ◌∙◌}
use mathlib.Core.Bool.{not}
use Rattle.machine.specs.Declined.{count_fits}
use Rattle.request.specs.Reading.{message_of}
use Rattle.request.proofs.ReadLaws.{count_is}
use Rattle.request.proofs.RowLaws.{count_declined, count_fitting}
use Rattle.request.proofs.request_row.Goals as goal

pub returns-then-not-count_fits : goal.returns-then-not-count_fits
returns-then-not-count_fits c = count_declined c.args.sheet c.args.request (message_of c.args.asked.line.now) (c.count_fits.ensures ∙ ap (count_fits c.args.request) (count_is c.args.asked.line.now c.args.asked.head c.args.asked.read)) (ap not c.if-not-count_fits.true)

pub returns : goal.returns
returns c = c.arguments_row.ensures ∙ count_fitting c.args.sheet c.args.request (message_of c.args.asked.line.now) (c.count_fits.ensures ∙ ap (count_fits c.args.request) (count_is c.args.asked.line.now c.args.asked.head c.args.asked.read)) (ap not c.if-not-count_fits.false)
