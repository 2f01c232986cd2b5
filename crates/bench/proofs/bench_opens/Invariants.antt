-- After k turns the count is k where the sheet opens, else 0.
use Prim.Native.Nat.{ℕ, ◌≤◌}
use mathlib.Core.Path.{◌≡◌}
use mathlib.Core.Bool.{Bool, cond}
use mathlib.Core.List.{List}
use lib.Dec.{eqb}
use Rattle.machine.specs.Opening.{start_of, opened}
use Rattle.bench.proofs.bench_opens.Given as goal

-- the sheet opens
abbrev opens : List ℕ → Bool
opens sheet = eqb (opened (start_of 0 sheet)).number 0

abbrev pub invariant-loop : goal.invariant-loop
invariant-loop l = (l.counter ≤ l.n) × (l.taken ≡ cond (opens l.sheet) l.counter 0)
