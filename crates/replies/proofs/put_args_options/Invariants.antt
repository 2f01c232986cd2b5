-- The invariant: the options passed are written.
use mathlib.Core.List.{[]}
use Rattle.output.specs.Output.{output, Wrote}
use Rattle.message.specs.Message.{args_text}
use Rattle.machine.specs.Places.{tabulate}
use Rattle.machine.specs.Sheet.{option_of}
use Rattle.replies.proofs.put_args_options.Given as goal

abbrev pub invariant-loop-k : goal.invariant-loop-k
invariant-loop-k l = Wrote (output l.initial.out l.at) (args_text (tabulate (option_of l.sensor) l.k) []) (output l.out l.p)
