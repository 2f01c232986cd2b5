-- The escapes of the bytes passed; an empty argument has passed none, and gets its own behind them.
use mathlib.Core.Path.{◌≡◌}
use lib.ListN.{length, take}
use Rattle.output.specs.Output.{output, Wrote}
use Rattle.message.specs.Message.{escape_all}
use Rattle.message.proofs.put_escaped.Given as goal

abbrev pub invariant-loop-b : goal.invariant-loop-b
invariant-loop-b l = (length l.out ≡ length l.initial.out) × Wrote (output l.initial.out l.at) (escape_all (take l.b-index l.s)) (output l.out l.p)
