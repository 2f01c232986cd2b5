-- The keys passed are those of the options, of 8 in the end.
use native.Mathlib.Omega.{arith}
use mathlib.Core.Path.{◌≡◌, refl}
use lib.ListN.{replicate}
use Rattle.machine.specs.Places.{tabulate}
use Rattle.machine.proofs.StoreLaws.{filled_one}
use Rattle.rules.specs.Keys.{choice_keys}
use Rattle.rules.proofs.KeyLaws.{option_key}
use Rattle.rules.proofs.choice_keys.Goals as goal

pub loop-k-init : goal.loop-k-init
unfolding tabulate
loop-k-init c = refl

pub loop-k-preserved : goal.loop-k-preserved
loop-k-preserved c = let turn = c.loop-k in
    rw (turn.invariant, c.choice_key.ensures) (filled_one (option_key c.args.options) (replicate 32 0) turn.k (omega arith))

pub returns : goal.returns
unfolding choice_keys
returns c = let e : c.loop-k.k ≡ 8 = omega arith in rw (c.loop-k.invariant, e)
