-- The informs, then the reply with their count.
use mathlib.Core.Path.{sym, ◌∙◌}
use lib.ListN.{length-map}
use Rattle.machine.specs.Messages.{client_inform}
use Rattle.machine.specs.Requests.{addresses_below}
use Rattle.replies.proofs.ToldLaws.{counted}
use Rattle.replies.proofs.client_list.Goals as goal

pub returns : goal.returns
returns c = counted _ c.tell_clients-told.ensures.sent c.deliver_count.ensures (c.tell_clients-told.ensures.count_value ∙ sym (length-map (addresses_below c.args.clients 8) (client_inform c.args.id)))
