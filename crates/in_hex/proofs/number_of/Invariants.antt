-- The number so far and the digits of the rest make the number of the text, and i digits make less than 16^i.
use Prim.Native.Nat.{◌^◌, ◌<◌}
use mathlib.Core.Path.{◌≡◌}
use lib.ListN.{drop}
use Rattle.in_hex.specs.Hex.{hex_from}
use Rattle.in_hex.proofs.number_of.Given as goal

abbrev pub invariant-loop-b : goal.invariant-loop-b
invariant-loop-b l = (l.n < 16 ^ l.b-index) × (hex_from l.n (drop l.b-index l.t) ≡ hex_from 0 l.t)
