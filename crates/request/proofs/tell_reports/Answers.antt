-- The invariant: the reports of the first k places were sent.
use Rattle.request.proofs.PassLaws.{passed_on}
use Rattle.request.proofs.tell_reports.Goals as goal

pub loop-place-preserved : goal.loop-place-preserved
loop-place-preserved c = passed_on c.loop-place.invariant c.loop-place-test.true c.deliver_report-p.ensures
