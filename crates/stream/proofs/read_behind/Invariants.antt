-- While calls are made again, no byte came, and what stands before the part that is lent stays as it was.
use Rattle.std.proofs.Common.{◌≡◌, length, take}
use Rattle.std.specs.Io.KnownBytes.{Keeps}
use Rattle.stream.proofs.read_behind.Given as goal

abbrev pub invariant-loop : goal.invariant-loop
invariant-loop g l = record {
  size : length l.buf ≡ length l.fn.buf;
  front : take l.to l.buf ≡ take l.to l.fn.buf;
  bytes : Keeps (g.R.Read.remaining l.fn.input) (g.R.Read.remaining l.input);
}
