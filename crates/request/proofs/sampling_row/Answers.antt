-- A list that no row declines is that of the places that are asked for.
use mathlib.Core.Path.{ap, sym, ◌∙◌}
use Rattle.std.proofs.lemmas.Result.{err_from_is_err_and}
use Rattle.machine.specs.Refusals.{number_in}
use Rattle.request.proofs.RowLaws.{sampling_first, sampling_alone, sampling-set}
use Rattle.request.proofs.sampling_row.Goals as goal

pub returns-in_err-list : goal.returns-in_err-list
returns-in_err-list c = let p = err_from_is_err_and c.from_residual.result c.from_residual.ensures.1 in
    rw (p.1, p.2) (sampling_first c.args.asked.line.now c.args.asked.head c.args.asked.read c.args.sheet c.requires c.sensors_listed.ensures c.in_err-list.was)

pub returns-then-asked-eq1 : goal.returns-then-asked-eq1
returns-then-asked-eq1 c = sampling_alone c.args.asked.line.now c.args.asked.head c.args.asked.read c.args.sheet c.requires c.sensors_listed.ensures c.in_ok-list.was c.if-asked-eq1.true c.alone_row.ensures

pub returns-in_err-setting_asked : goal.returns-in_err-setting_asked
returns-in_err-setting_asked c = let p = err_from_is_err_and c.from_residual-in_err-setting_asked.result c.from_residual-in_err-setting_asked.ensures.1 in
    rw (p.1, p.2) (ap number_in (sym c.in_err-setting_asked.was) ∙ sampling-set c.args.asked.line.now c.args.asked.head c.args.asked.read c.args.sheet c.requires c.sensors_listed.ensures c.in_ok-list.was c.if-asked-eq1.false c.places.ensures c.setting_asked.ensures.number)

pub returns : goal.returns
returns c = ap number_in (sym c.in_ok-setting_asked.was) ∙ sampling-set c.args.asked.line.now c.args.asked.head c.args.asked.read c.args.sheet c.requires c.sensors_listed.ensures c.in_ok-list.was c.if-asked-eq1.false c.places.ensures c.setting_asked.ensures.number
