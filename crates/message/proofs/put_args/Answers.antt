-- One argument more behind those passed.
use mathlib.Core.List.{[]}
use Rattle.std.proofs.lemmas.List.{map_more}
use Rattle.message.proofs.MessageLaws.{arg_more}
use Rattle.message.proofs.put_args.Goals as goal

pub loop-a-preserved : goal.loop-a-preserved
loop-a-preserved c =
    rw (map_more (λ a. a.now) c.args.args.now c.loop-a.a-index (record { ref_ptr = (0, 0); now = [] }) c.loop-a-test.true)
    (arg_more _ _ c.loop-a.invariant c.put_arg-p.ensures)
