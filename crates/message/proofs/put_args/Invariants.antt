-- The arguments passed are written.
use mathlib.Core.List.{[], map}
use lib.ListN.{take}
use Rattle.output.specs.Output.{output, Wrote}
use Rattle.message.specs.Message.{args_text}
use Rattle.message.proofs.put_args.Given as goal

abbrev pub invariant-loop-a : goal.invariant-loop-a
invariant-loop-a l = Wrote (output l.fn.out l.at) (args_text (map (λ a. a.now) (take l.a-index l.args)) []) (output l.out l.p)
