-- One delivery that counts one, or none.
use mathlib.Core.Path.{refl}
use native.Mathlib.Omega.{arith}
use borrow.Author.Tests.{not-false}
use Rattle.message.proofs.DeliveryLaws.{none_sent}
use Rattle.replies.proofs.tell_client.Goals as goal

pub returns-then-not-k : goal.returns-then-not-k
returns-then-not-k c = rw c.if-not-k.true (record { sent = none_sent; count_value = omega arith })

pub returns : goal.returns
returns c = rw (not-false c.args.k.now.connected (cc)) (record { sent = rw c.prefix-text.ensures at c.deliver-p.ensures; count_value = refl })
