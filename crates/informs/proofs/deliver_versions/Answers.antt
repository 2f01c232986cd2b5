-- The calls' facts in a chain.
use Rattle.message.proofs.DeliveryLaws.{and}
use Rattle.informs.proofs.deliver_versions.Goals as goal

pub returns : goal.returns
returns c = and c.deliver_protocol-p.ensures c.deliver_device.ensures
