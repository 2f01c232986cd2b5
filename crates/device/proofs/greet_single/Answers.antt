-- The one that is there is told first, then the newcomer.
use Rattle.message.proofs.DeliveryLaws.{and}
use Rattle.device.proofs.greet_single.Goals as goal

pub returns : goal.returns
returns c = and (rw c.is_connected-there.ensures at c.displace-at.ensures) c.deliver_versions.ensures
