-- The invariant: the options passed are written.
use native.Mathlib.Omega.{arith}
use mathlib.Core.Path.{◌≡◌}
use borrow.Author.Rules.{rules}
use Rattle.machine.specs.Places.{tabulate}
use Rattle.machine.specs.Sheet.{option_of}
use Rattle.replies.proofs.LineLaws.{next_arg}
use Rattle.replies.proofs.put_args_options.Goals as goal

pub loop-k-init : goal.loop-k-init
unfolding tabulate
loop-k-init c = search rules

pub loop-k-preserved : goal.loop-k-preserved
loop-k-preserved c = next_arg (option_of c.args.sensor) _ c.loop-k.invariant (rw c.option_at-option.ensures at c.put_arg_prefix-p.ensures)

pub returns : goal.returns
returns c = let end : c.loop-k.k ≡ c.args.sensor.option_count = omega arith in
    rw end at c.loop-k.invariant
