-- A line on a device: what is lent of the output, and what is made of the parts.
use Prim.Native.Nat.{ℕ, min, ◌<◌}
use mathlib.Core.Path.{◌≡◌, sym, ap, ◌∙◌}
use mathlib.Core.List.{List, ◌++◌}
use lib.ListN.{length, take, drop, take-append-drop}
use borrow.Author.Tests.{lt-ltb}
use Rattle.texts.proofs.At.{up_to_end}
use Rattle.machine.specs.declared.State.{State}
use Rattle.machine.specs.declared.Answer.{Answer}
use Rattle.script.specs.declared.Command.{Command}
use Rattle.std.specs.Prelude.{None, Option}
use Rattle.script.specs.Script.{command_of, lent_by}
use Rattle.script.specs.Replay.{asking, quiet, answered, left, performed, output_after}

module _ (s : State) (line out : List ℕ) where
  pub too_long : {a : Answer} → 65536 < length line → a ≡ quiet 0 s → (record { command = None; answer = a } ≡ performed s line out) × (out ≡ output_after s line out)
  unfolding performed output_after answered left asking command_of
  too_long {a} h e =
      let w = lt-ltb 65536 (length line) h in
      (rw (w, e), rw w (sym (take-append-drop (lent_by line) out)))

  pub made : {c : Option Command} {n : ℕ} {a : Answer} {part : List ℕ} → c ≡ command_of s.clock line → n ≡ min (lent_by line) (length out)
      → (a ≡ answered s (take n out) (asking line c)) × (part ≡ left s (take n out) (asking line c))
      → (record { command = c; answer = a } ≡ performed s line out) × (part ++ drop n out ≡ output_after s line out)
  unfolding performed output_after
  made {c} {n} {a} {part} e m k =
      let l = up_to_end (lent_by line) out in
      let t : take n out ≡ take (lent_by line) out = ap (λ (j : ℕ). take j out) m ∙ l.0 in
      let d : drop n out ≡ drop (lent_by line) out = ap (λ (j : ℕ). drop j out) m ∙ l.1 in
      (rw (k.0, t, e), rw (k.1, t, d, e))
