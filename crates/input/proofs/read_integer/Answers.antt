-- What the machine has after each cast.
use mathlib.Core.Path.{◌∙◌}
use Rattle.output.specs.Read.{read_integer}
use Rattle.input.proofs.SignedLaws as signed
use Rattle.input.proofs.read_integer.Goals as goal

pub returns-in_err-v : goal.returns-in_err-v
returns-in_err-v c = c.from_residual.ensures ∙ signed.no_integer (read_integer c.args.t.now) c.in_err-v.ensures

pub overflow_cast-v : goal.overflow_cast-v
overflow_cast-v c = signed.wide_fits c.args.t.now _ c.in_ok-v.ensures

pub overflow_sub-v : goal.overflow_sub-v
overflow_sub-v c = signed.less_fits c.args.t.now _ c.in_ok-v.ensures

pub returns : goal.returns
returns c = let t = c.args.t.now in
    c.ok.ensures.value ∙ signed.converted c.try_from.result _ _ c.try_from.ensures (signed.narrow_fits t _ c.in_ok-v.ensures) ∙ signed.integer_is t _ c.in_ok-v.ensures
