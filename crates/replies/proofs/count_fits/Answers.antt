-- By the request.
use native.Mathlib.Omega.{arith}
use Rattle.machine.specs.Declined.{count_fits}
use Rattle.replies.proofs.count_fits.Goals as goal

pub returns-in-Help : goal.returns-in-Help
unfolding count_fits
returns-in-Help c = grind arith

pub returns-in-SensorSampling : goal.returns-in-SensorSampling
unfolding count_fits
returns-in-SensorSampling c = cc

pub returns-in_default : goal.returns-in_default
unfolding count_fits
returns-in_default c = grind arith
