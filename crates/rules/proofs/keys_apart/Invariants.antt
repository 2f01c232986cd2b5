-- What is found is the test of each key passed.
use mathlib.Core.Path.{◌≡◌}
use lib.Dec.{eqb}
use lib.ListN.{take}
use Rattle.std.specs.List.{count_by, list_all}
use Rattle.rules.proofs.keys_apart.Given as goal

abbrev pub invariant-loop-own : goal.invariant-loop-own
invariant-loop-own l = l.ok ≡ list_all (λ own. eqb (count_by (λ k. eqb k own) l.keys) 1) (take l.own-index l.keys)
