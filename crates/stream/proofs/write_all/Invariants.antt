-- The bytes before `at` were taken, and no more than there are.
use Rattle.std.proofs.Common.{◌≤◌, length, take}
use Rattle.std.specs.Io.KnownBytes.{Appends}
use Rattle.stream.proofs.write_all.Given as goal

abbrev pub invariant-loop : goal.invariant-loop
invariant-loop g l = record {
  fits : l.at ≤ length l.bytes;
  taken : Appends (g.W.Write.contents l.fn.to) (g.W.Write.contents l.to) (take l.at l.bytes);
}
