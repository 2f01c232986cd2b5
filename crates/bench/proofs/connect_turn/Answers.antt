-- By whether k is even.
use borrow.Author.Tests.{eq-eqb, ne_eqb}
use Rattle.bench.specs.Runs.{round_action}
use Rattle.bench.proofs.connect_turn.Goals as goal

pub returns-then-k-eq0 : goal.returns-then-k-eq0
unfolding round_action
returns-then-k-eq0 c = rw (eq-eqb _ 0 c.if-k-eq0.true) c.connect.ensures

pub returns : goal.returns
unfolding round_action
returns c = rw (ne_eqb _ 0 c.if-k-eq0.false) c.disconnect.ensures
