-- What a read brought is what stands behind the place.
use Rattle.std.proofs.Common.{rules}
use Rattle.stream.proofs.KnownLaws.{given_there}
use Rattle.stream.proofs.read_behind.Goals as goal

pub returns-then-not-again-clause-bytes : goal.returns-then-not-again-clause-bytes
returns-then-not-again-clause-bytes g c = given_there _ _ _ c.read-answer.result c.args.to c.in-Ok.n c.loop.buf c.read-answer.new.buf c.in-Ok.is (search rules) (search rules) c.loop.invariant.bytes c.read-answer.ensures.bytes
