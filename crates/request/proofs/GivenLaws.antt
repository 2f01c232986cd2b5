-- An answer that gives an effect.
use Prim.Native.Nat.{ℕ}
use mathlib.Core.Path.{◌≡◌, refl, sym, subst}
use mathlib.Core.List.{List, []}
use Rattle.output.specs.Output.{output}
use Rattle.message.specs.Delivery.{Sent}
use Rattle.message.proofs.DeliveryLaws.{none_sent}
use Rattle.machine.specs.declared.State.{State}
use Rattle.machine.specs.declared.Answer.{Answer}
use Rattle.machine.specs.Requests.{sends_only}
use Rattle.machine.specs.Machine.{Effect, done}
use Rattle.request.specs.Effects.{Gives}

-- an answer of number 0
pub answered_is : {e : Effect} {lent out : List ℕ} {r : Answer} {s : State} {n : ℕ} → r ≡ record { number = 0; written = n; state = s }
    → 0 ≡ e.number → s ≡ e.next → Sent (output lent 0) e.sent (output out n) → Gives e lent r out
answered_is q e f h = rw q (record { number = e; state = f; sent = h })

-- the same effect by another name
pub as_given : {e f : Effect} {lent out : List ℕ} {r : Answer} → f ≡ e → Gives e lent r out → Gives f lent r out
as_given {lent = lent} {out} {r} q g = subst (λ (x : Effect). Gives x lent r out) (sym q) g

-- nothing is sent, and nothing changes
pub nothing_given : (s : State) (lent : List ℕ) {r : Answer} → r ≡ record { number = 0; written = 0; state = s } → Gives (done (sends_only s [])) lent r lent
nothing_given s lent q = answered_is q refl refl none_sent
