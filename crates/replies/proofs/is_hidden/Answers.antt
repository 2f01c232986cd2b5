-- By the request.
use native.Mathlib.Omega.{arith}
use Rattle.machine.specs.Requests.{hidden}
use Rattle.replies.proofs.is_hidden.Goals as goal

pub returns-in-ClientList : goal.returns-in-ClientList
unfolding hidden
returns-in-ClientList c = rw c.in-ClientList.is c.is_single.ensures

pub returns-in_default : goal.returns-in_default
unfolding hidden
returns-in_default c = grind arith
