-- The number without as many digits as turns.
use Prim.Native.Nat.{◌/◌, ◌^◌}
use mathlib.Core.Path.{◌≡◌}
use Rattle.numbers.proofs.without_digits.Given as goal

abbrev pub invariant-loop : goal.invariant-loop
invariant-loop l = l.m ≡ l.n / 10 ^ l.counter
