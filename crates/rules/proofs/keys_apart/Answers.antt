-- What is found is the test of each key passed, of all in the end.
use native.Mathlib.Omega.{arith}
use lib.Dec.{eqb}
use Rattle.std.specs.List.{count_by}
use Rattle.std.proofs.lemmas.List.Folds.{list_all_more}
use Rattle.rules.proofs.keys_apart.Goals as goal

pub loop-own-preserved : goal.loop-own-preserved
loop-own-preserved c = let keys = c.args.keys.now in
    rw (c.loop-own.invariant, list_all_more (λ own. eqb (count_by (λ k. eqb k own) keys) 1) keys c.loop-own.own-index 0 (omega arith), c.times.ensures)
