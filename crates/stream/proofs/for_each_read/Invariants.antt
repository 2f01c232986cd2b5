-- The bytes that came stand in the buffer, and were read.
use Rattle.std.proofs.Common.{ℕ, ◌≤◌, ◌≡◌, List, length}
use Rattle.std.specs.Io.KnownBytes.{Consumes}
use Rattle.stream.proofs.for_each_read.Given as goal

abbrev pub invariant-loop : goal.invariant-loop
invariant-loop g l = record {
  callable : goal.F-IsAlwaysCallable g l.each;
  within : l.came.to ≤ length l.buf;
  size : length l.buf ≡ length l.fn.buf;
  bytes : (came : List ℕ) × Consumes (g.R.Read.remaining l.fn.input) (g.R.Read.remaining l.input) came;
}
