-- So many of the keys passed are the one asked for.
use mathlib.Core.Path.{◌≡◌}
use lib.Dec.{eqb}
use lib.ListN.{take}
use Rattle.std.specs.List.{count_by}
use Rattle.rules.proofs.times.Given as goal

abbrev pub invariant-loop-key : goal.invariant-loop-key
invariant-loop-key l = l.found ≡ count_by (λ k. eqb k l.own) (take l.key-index l.keys)
