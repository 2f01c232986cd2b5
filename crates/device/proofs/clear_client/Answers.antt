-- The invariant: the client's first j places are cleared, the others are as they were.
use borrow.Author.Rules.{rules}
use native.Mathlib.Omega.{arith}
use Rattle.device.proofs.ClearLaws.{cleared_none, cleared_more}
use Rattle.device.proofs.clear_client.Goals as goal

pub loop-j-init : goal.loop-j-init
loop-j-init c = cleared_none c.args.pairs.now c.args.client (search rules)

pub loop-j-preserved : goal.loop-j-preserved
loop-j-preserved c = rw (c.loop-j.invariant, c.no_subscription.ensures) (cleared_more c.args.pairs.now c.args.client c.loop-j.j c.requires (omega arith))
