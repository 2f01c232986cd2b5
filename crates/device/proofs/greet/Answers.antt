-- Under profile 1 the one that is there and the newcomer are told; else the newcomer the versions, and then the others.
use mathlib.Core.Path.{sym, ◌∙◌}
use Rattle.message.proofs.DeliveryLaws.{and, as_sent}
use Rattle.machine.specs.Messages.{client_connected, to_others}
use Rattle.machine.specs.Machine.{greeting}
use Rattle.device.proofs.ReasonLaws.{sends_single, sends_others}
use Rattle.device.proofs.greet.Goals as goal

pub returns-then-is_single : goal.returns-then-is_single
returns-then-is_single c = let a = c.args in
    as_sent c.greet_single.ensures (sends_single a.state a.client a.address.now (sym c.is_single.ensures ∙ c.if-is_single.true))

pub returns : goal.returns
returns c = let a = c.args in
    as_sent (and {ds = greeting a.state.sheet a.client} {es = to_others a.state a.client (client_connected a.address.now)} c.deliver_versions-at.ensures c.inform_others.ensures)
    (sends_others a.state a.client a.address.now (sym c.is_single.ensures ∙ c.if-is_single.false))
