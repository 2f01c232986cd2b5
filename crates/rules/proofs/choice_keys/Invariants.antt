-- The keys passed are those of the options.
use mathlib.Core.Path.{◌≡◌}
use mathlib.Core.List.{◌++◌}
use lib.ListN.{drop, replicate}
use Rattle.machine.specs.Places.{tabulate}
use Rattle.rules.proofs.KeyLaws.{option_key}
use Rattle.rules.proofs.choice_keys.Given as goal

abbrev pub invariant-loop-k : goal.invariant-loop-k
invariant-loop-k l = l.keys ≡ tabulate (option_key l.options) l.k ++ drop l.k (replicate 32 0)
