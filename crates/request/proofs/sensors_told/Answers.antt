-- All sensors where the line has no argument, else those of the list.
use mathlib.Core.Path.{ap, ◌∙◌}
use Rattle.std.specs.Prelude.{Ok}
use Rattle.names.specs.Scan.{scanned}
use Rattle.names.proofs.SheetPlaces.{every_is}
use Rattle.request.proofs.RowLaws.{all_asked, list_asked}
use Rattle.request.proofs.sensors_told.Goals as goal

pub returns-then-asked-eq0 : goal.returns-then-asked-eq0
returns-then-asked-eq0 c = ap Ok c.every_place.ensures ∙ every_is c.args.sheet c.requires ∙ ap (scanned c.args.sheet) (all_asked c.args.asked.line.now c.args.asked.head c.args.asked.read c.args.sheet c.if-asked-eq0.true)

pub returns : goal.returns
returns c = c.sensors_listed.ensures ∙ ap (scanned c.args.sheet) (list_asked c.args.asked.line.now c.args.asked.head c.args.asked.read c.args.sheet c.if-asked-eq0.false)
