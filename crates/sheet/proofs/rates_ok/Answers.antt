-- What `period_ok` says of the longest, beside the one test.
use Rattle.sheet.proofs.rates_ok.Goals as goal

pub returns : goal.returns
returns c = rw c.period_ok.ensures
