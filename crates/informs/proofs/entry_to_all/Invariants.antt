-- The clients passed have the entry.
use lib.ListN.{get_or}
use Rattle.output.specs.Output.{output}
use Rattle.machine.specs.State.{no_client}
use Rattle.machine.specs.Messages.{log_entry}
use Rattle.informs.proofs.ServedLaws.{Serving}
use Rattle.informs.proofs.entry_to_all.Given as goal

abbrev pub invariant-loop-c : goal.invariant-loop-c
invariant-loop-c l = Serving (λ k. (get_or l.fn.clients k no_client).connected) (log_entry l.level l.clock l.logger l.said) (output l.initial.out 0) l.c (output l.out l.at)
