-- Each line leaves fewer bytes.
use Rattle.std.proofs.Common.{◌≤◌, length}
use Rattle.stream.proofs.take_lines.Given as goal

abbrev pub invariant-loop-end : goal.invariant-loop-end
invariant-loop-end g l = length l.rest ≤ length l.s

abbrev pub decreases-loop-end : goal.decreases-loop-end
decreases-loop-end g l = length l.rest
