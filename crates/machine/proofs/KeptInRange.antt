-- The states that opening and calls return are in range, and no call on one of them returns number 1.
use mathlib.Core.Path.{◌≡◌}
use mathlib.Core.Bool.{true}
use mathlib.Core.List.{List, [], ◌∷◌}
use Rattle.machine.specs.State.{blank}
use Rattle.machine.specs.Range.{in_range}
use Rattle.machine.specs.Opening.{Start, opened}
use Rattle.machine.specs.Declined.{Call}
use Rattle.machine.specs.TwoDevices.{after}
use Rattle.machine.specs.Claims.{KeptInRange}
use Rattle.machine.proofs.RangeLaws.{range_of}
use Rattle.machine.proofs.OpenedRange.{blank_range, opened_range}
use Rattle.machine.proofs.Keeps.{step_kept}
use Rattle.machine.proofs.NeverOne.{never_one_in_range}

pub after_in_range : (start : Start) (h : List Call) → in_range (after start h) ≡ true
unfolding after
after_in_range start [] = range_of (opened start).state (opened_range start)
after_in_range start (call ∷ h) = step_kept (after start h) (after_in_range start h) call

pub kept_in_range : KeptInRange
kept_in_range = record {
  blank_in_range = range_of blank blank_range;
  opened_in_range = λ start. range_of (opened start).state (opened_range start);
  step_in_range = step_kept;
  never_one = λ start h call. never_one_in_range (after start h) call (after_in_range start h);
}
