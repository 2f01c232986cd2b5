-- Each read that brings bytes leaves less room. The bytes of the buffer are those that the input gave.
use Rattle.std.proofs.Common.{◌≡◌, ◌-◌, ◌<◌, ◌≤◌, length, take}
use Rattle.std.specs.Io.KnownBytes.{Consumes, IsAtEnd}
use Rattle.stream.proofs.read_all.Given as goal

abbrev pub invariant-loop-from : goal.invariant-loop-from
invariant-loop-from g l = record {
  forward : l.from ≤ l.to;
  fits : l.to ≤ length l.buf;
  size : length l.buf ≡ length l.fn.buf;
  bytes : Consumes (g.R.Read.remaining l.fn.input) (g.R.Read.remaining l.input) (take l.to l.buf);
  end : l.to ≡ l.from → l.from < length l.buf → IsAtEnd (g.R.Read.remaining l.input);
}

abbrev pub decreases-loop-from : goal.decreases-loop-from
decreases-loop-from g l = length l.buf - l.from
