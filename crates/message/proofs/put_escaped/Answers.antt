-- The escapes of the bytes passed; an empty argument has passed none, and gets its own behind them.
use borrow.Author.Rules.{rules}
use native.Mathlib.Omega.{arith}
use mathlib.Core.Path.{refl}
use Rattle.message.proofs.MessageLaws.{more, whole, empty}
use Rattle.message.proofs.put_escaped.Goals as goal

pub loop-b-init : goal.loop-b-init
loop-b-init c = (refl, record { is = refl })

pub loop-b-preserved : goal.loop-b-preserved
loop-b-preserved c = (omega arith, search (more, arith))

pub returns-then-s-eq0 : goal.returns-then-s-eq0
returns-then-s-eq0 c = search (empty, rules)

pub returns : goal.returns
returns c = whole _ c.loop-b.b-index (omega arith) (omega arith) c.loop-b.invariant.1
