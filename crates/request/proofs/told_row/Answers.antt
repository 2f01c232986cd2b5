-- The number of the list is that of the row.
use mathlib.Core.Path.{ap, sym, ◌∙◌}
use Rattle.std.proofs.lemmas.Result.{err_from_is_err_and}
use Rattle.machine.specs.Requests.{asked_places}
use Rattle.machine.specs.Refusals.{number_in}
use Rattle.names.proofs.SheetPlaces.{scanned_number}
use Rattle.request.specs.Reading.{message_of}
use Rattle.request.proofs.told_row.Goals as goal

pub returns-in_err-sensors_told : goal.returns-in_err-sensors_told
returns-in_err-sensors_told c = let p = err_from_is_err_and c.from_residual.result c.from_residual.ensures.1 in
    rw (p.1, p.2) (ap number_in (sym c.in_err-sensors_told.was) ∙ (ap number_in c.sensors_told.ensures ∙ scanned_number c.args.sheet c.requires (asked_places c.args.sheet (message_of c.args.asked.line.now))))

pub returns : goal.returns
returns c = ap number_in (sym c.in_ok-sensors_told.was) ∙ (ap number_in c.sensors_told.ensures ∙ scanned_number c.args.sheet c.requires (asked_places c.args.sheet (message_of c.args.asked.line.now)))
