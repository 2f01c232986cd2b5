-- What is found so far, and the test of the rest, is the test of the whole.
use Prim.Native.Nat.{◌≤◌}
use mathlib.Core.Path.{◌≡◌}
use mathlib.Core.Bool.{◌&&◌}
use lib.ListN.{length, drop}
use Rattle.output.specs.Text.{all}
use Rattle.in_hex.specs.Hex.{is_hex}
use Rattle.in_hex.proofs.all_hex.Given as goal

abbrev pub invariant-loop-b : goal.invariant-loop-b
invariant-loop-b l = (l.b-index ≤ length l.t) × ((l.ok && all is_hex (drop l.b-index l.t)) ≡ all is_hex l.t)
