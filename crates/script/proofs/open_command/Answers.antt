-- A profile that was read is one that a byte holds.
use Rattle.std.proofs.Common.{arith, sym, ◌∙◌}
use Rattle.script.proofs.ReadingLaws.{profile_within}
use Rattle.script.proofs.open_command.Goals as goal

pub overflow_cast-result : goal.overflow_cast-result
overflow_cast-result c = omega (arith, profile_within c.args.line.now c.in_ok-profile.profile (sym c.profile_at.ensures ∙ c.in_ok-profile.was))
