-- The measure is the digits that are left.
use Rattle.output.proofs.+put_fraction.Given as goal

abbrev pub decreases-put_fraction : goal.decreases-put_fraction
decreases-put_fraction l = l.left
