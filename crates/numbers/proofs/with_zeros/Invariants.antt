-- The number with as many zeros as turns, `most` at most.
use Prim.Native.Nat.{◌*◌, ◌^◌, min}
use mathlib.Core.Path.{◌≡◌}
use Rattle.numbers.proofs.with_zeros.Given as goal

abbrev pub invariant-loop : goal.invariant-loop
invariant-loop l = l.m ≡ min (l.n * 10 ^ l.counter) l.most
