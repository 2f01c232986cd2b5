-- The number of the level is that of the row.
use mathlib.Core.Path.{ap, sym, ◌∙◌}
use Rattle.std.proofs.lemmas.Result.{err_from_is_err_and}
use Rattle.machine.specs.Refusals.{number_in}
use Rattle.request.proofs.level_row.Goals as goal

pub returns-in_err-level_asked : goal.returns-in_err-level_asked
returns-in_err-level_asked c = let p = err_from_is_err_and c.from_residual.result c.from_residual.ensures.1 in
    rw (p.1, p.2) (ap number_in (sym c.in_err-level_asked.was) ∙ c.level_asked.ensures.number)

pub returns : goal.returns
returns c = ap number_in (sym c.in_ok-level_asked.was) ∙ c.level_asked.ensures.number
