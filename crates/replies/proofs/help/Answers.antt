-- The informs, then the reply with their count.
use mathlib.Core.Path.{refl}
use Rattle.machine.specs.Requests.{shown_rows}
use Rattle.replies.proofs.ToldLaws.{counted, counted_rows}
use Rattle.replies.proofs.help.Goals as goal

pub returns-then-named : goal.returns-then-named
returns-then-named c = rw c.if-named.true (counted _ c.tell_request-p.ensures c.deliver_count.ensures refl)

pub returns : goal.returns
returns c = rw c.if-named.false
    (counted_rows (shown_rows c.args.profile) c.tell_requests-told.ensures.sent c.deliver_count-2.ensures c.tell_requests-told.ensures.count_value)
