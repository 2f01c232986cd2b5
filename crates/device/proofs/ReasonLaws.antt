-- The text that a displaced client is told, written into a buffer; what a connect sends by the profile.
use Prim.Native.Nat.{ℕ, ◌≤◌}
use native.Mathlib.Omega.{arith}
use mathlib.Core.Path.{◌≡◌, sym}
use mathlib.Core.Bool.{true, false}
use mathlib.Core.List.{List, ◌++◌}
use lib.ListN.{length, take, replicate, length-append, length-replicate}
use lib.Seq.{length-take-le, take-append_seam}
use Rattle.output.specs.Output.{output, Wrote}
use Rattle.output.specs.Text.{text}
use Rattle.output.proofs.OutputLaws.{then, same, from_start}
use Rattle.machine.specs.declared.State.{State}
use Rattle.machine.specs.Sheet.{single}
use Rattle.machine.specs.Messages.{client_connected, to_others}
use Rattle.machine.specs.Machine.{greeting, connect_single, connect_sends}
use Rattle.machine.proofs.TestLaws.{cond_true, cond_false}

-- the first n bytes of a buffer are that text, with an address
pub record Reason (address held : List ℕ) (n : ℕ) : Type 0 where
  pub inside : n ≤ length held
  pub count : n ≡ length (take n held)
  pub is : take n held ≡ text "New client connected from " ++ address

-- so they are where it was written from the start
pub reason : {address half held : List ℕ} {p n : ℕ} → length address ≤ 48 → Wrote (output (replicate 74 0) 0) (text "New client connected from ") (output half p)
    → Wrote (output half p) address (output held n) → Reason address held n
reason {address} {half} {held} {p} {n} few first second =
    let all = then first second in
    let room : length (replicate {A = ℕ} 74 0) ≡ 74 = length-replicate {A = ℕ} 74 0 in
    let size = length-append (text "New client connected from ") address in
    let f = from_start all (omega (arith, few, room, size)) in
    let i : n ≤ length held = omega (arith, f.0, same all, room, size, few) in
    record { inside = i; count = sym (length-take-le n held i); is = rw (f.1, f.0) (take-append_seam (text "New client connected from " ++ address) _) }

-- what a connect sends, by the profile
module _ (s : State) (c : ℕ) (address : List ℕ) where
  pub sends_single : single s.sheet.profile ≡ true → connect_single s.sheet s c address ≡ connect_sends s.sheet s c address
  unfolding connect_sends
  sends_single e = sym (cond_true (single s.sheet.profile) _ _ e)

  pub sends_others : single s.sheet.profile ≡ false → greeting s.sheet c ++ to_others s c (client_connected address) ≡ connect_sends s.sheet s c address
  unfolding connect_sends
  sends_others e = sym (cond_false (single s.sheet.profile) _ _ e)
