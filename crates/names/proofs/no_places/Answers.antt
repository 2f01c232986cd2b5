-- By the definition.
use mathlib.Core.Path.{refl}
use Rattle.names.specs.Scan.{listing}
use Rattle.names.proofs.no_places.Goals as goal

pub returns : goal.returns
unfolding listing
returns c = refl
