-- Each row by its test.
use borrow.Author.Tests.{lt-ltb, le-ltb}
use Rattle.machine.specs.Declined.{client_declined}
use Rattle.declining.proofs.client_rows.Goals as goal

pub returns-then-last_client-client : goal.returns-then-last_client-client
unfolding client_declined
returns-then-last_client-client g c = rw (c.of.ensures, c.above_last.ensures, lt-ltb _ _ (rw c.last_client.ensures at c.if-last_client-client.true))

pub returns-then-refused : goal.returns-then-refused
unfolding client_declined
returns-then-refused g c = rw (c.of-then-refused.ensures, le-ltb _ _ (rw c.last_client.ensures at c.if-last_client-client.false), c.if-refused.true)

pub returns : goal.returns
unfolding client_declined
returns g c = rw (le-ltb _ _ (rw c.last_client.ensures at c.if-last_client-client.false), c.if-refused.false)
