-- The first argument is the comma list.
use mathlib.Core.Path.{ap, ◌∙◌}
use Rattle.names.specs.Scan.{scanned}
use Rattle.request.proofs.RowLaws.{listed_asked}
use Rattle.request.proofs.sensors_listed.Goals as goal

pub returns : goal.returns
returns c = c.scan.ensures ∙ ap (scanned c.args.sheet) (listed_asked c.args.asked.line.now c.args.asked.head c.args.asked.read c.argument-n.ensures.into_after c.args.sheet c.requires)
