-- An option of the array, or past it none.
use native.Mathlib.Omega.{arith}
use lib.ListN.{get_or-eq_default}
use Rattle.machine.specs.Sheet.{no_choice}
use Rattle.machine.proofs.ArrayLaws.{options_many}
use Rattle.sampling.proofs.option_at.Goals as goal

pub returns : goal.returns
returns c = rw (get_or-eq_default c.args.sensor.options no_choice {n = c.args.place} (omega (arith, options_many c.args.sensor _ c.well_formed.0)))
