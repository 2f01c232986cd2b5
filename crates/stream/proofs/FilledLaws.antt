-- A buffer whose pending bytes were moved to its start has as many bytes as before, and room for them.
use Prim.Native.Nat.{ℕ, ◌≤◌}
use native.Mathlib.Omega.{arith}
use mathlib.Core.Path.{◌≡◌, ap, sym, ◌∙◌}
use mathlib.Core.Bool.{Bool, true, false, cond}
use mathlib.Core.List.{List}
use lib.Dec.{eqb}
use lib.ListN.{length, take, drop, length-append, length-take, length-drop}
use lib.Seq.{take_at}
use Rattle.output.specs.Output.{laid}
use Rattle.input.specs.declared.Window.{Window}
use Rattle.input.specs.Window.{pending, kept, first}
use Rattle.stream.specs.Filled.{Behind, Filled}

kept_fits : (buf : List ℕ) (w : Window) (most : ℕ) → length (kept buf w most) ≤ length buf
unfolding kept
kept_fits buf w most = go (eqb (length (pending buf w)) (length buf))
  where
    go : (t : Bool) → length (cond t (take most buf) (pending buf w)) ≤ length buf
    go true = rw length-take (omega arith)
    go false = rw (length-take, length-drop) (omega arith)

module _ (buf moved : List ℕ) (w : Window) (most : ℕ) (rest : Window) (count : rest ≡ first (length (kept buf w most))) (bytes : moved ≡ laid (kept buf w most) buf) where
  ends : rest.to ≡ length (kept buf w most)
  ends = ap (λ (x : Window). x.to) count

  as_long : length moved ≡ length buf
  as_long =
      ap length bytes
      ∙ length-append (kept buf w most) (drop (length (kept buf w most)) buf)
      ∙ rw length-drop (omega (arith, kept_fits buf w most))

  pub room : rest.to ≤ length moved
  room = omega (arith, ends, as_long, kept_fits buf w most)

  -- what is kept stands in front
  in_front : take rest.to moved ≡ kept buf w most
  in_front = rw bytes (take_at (kept buf w most) _ rest.to (sym ends))

  pub filled : (after : List ℕ) (to : ℕ) → Behind moved rest.to after to → Filled buf w most after record { from = rest.to; to = to }
  filled after to h = record { from = ends; to = h.fits; forward = h.forward; size = h.size ∙ as_long; front = h.front ∙ in_front }
