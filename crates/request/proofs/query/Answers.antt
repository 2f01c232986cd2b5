-- The strategy of the pair is told by the reply's writer; the state is answered as it was.
use mathlib.Core.Path.{refl}
use Rattle.machine.specs.Messages.{sampling_reply}
use Rattle.request.proofs.GivenLaws.{answered_is}
use Rattle.request.proofs.query.Goals as goal

pub returns : goal.returns
unfolding sampling_reply
returns c = answered_is c.answered.ensures refl refl c.deliver_sampling-written.ensures
