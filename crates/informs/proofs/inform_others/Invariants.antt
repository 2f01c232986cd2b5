-- The clients passed have the inform.
use mathlib.Core.Bool.{not, ◌&&◌}
use mathlib.Core.List.{[], ◌∷◌}
use lib.Dec.{eqb}
use lib.ListN.{get_or}
use Rattle.output.specs.Output.{output}
use Rattle.machine.specs.State.{no_client}
use Rattle.machine.specs.Messages.{inform}
use Rattle.informs.proofs.ServedLaws.{Serving}
use Rattle.informs.proofs.inform_others.Given as goal

abbrev pub invariant-loop-c : goal.invariant-loop-c
invariant-loop-c l = Serving (λ k. (get_or l.fn.clients k no_client).connected && not (eqb k l.but)) (inform l.name (l.a ∷ [])) (output l.initial.out l.at) l.c (output l.out l.p)
