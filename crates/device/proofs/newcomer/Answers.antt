-- The address stands at the start, and zeros behind it.
use native.Mathlib.Omega.{arith}
use Prim.Native.Nat.{ℕ, ◌≤◌}
use mathlib.Core.Path.{◌≡◌, ap, ◌∙◌}
use mathlib.Core.List.{List, ◌++◌}
use lib.ListN.{length, replicate, length-replicate}
use Rattle.output.specs.Output.{output, Wrote}
use Rattle.output.proofs.OutputLaws.{from_start}
use Rattle.machine.specs.Opening.{padded}
use Rattle.machine.proofs.StoreLaws.{drop-replicate}
use Rattle.device.proofs.newcomer.Goals as goal

-- a text in an array of zeros
pads : (n : ℕ) {t ys : List ℕ} {r : ℕ} → Wrote (output (replicate n 0) 0) t (output ys r) → length t ≤ n → ys ≡ padded n t
pads n {t} w h = (from_start w (rw length-replicate h)).1 ∙ ap (λ (l : List ℕ). t ++ l) (drop-replicate (length t) n 0)

pub returns : goal.returns
returns c = rw (pads 48 c.put_bytes.ensures (omega arith))
