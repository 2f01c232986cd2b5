-- Calls with one exit: what is answered, left and sent is chosen by the number.
use Prim.Native.Nat.{ℕ, zero, suc}
use native.Mathlib.Omega.{arith}
use mathlib.Core.Path.{◌≡◌, refl, ◌∙◌, ap}
use mathlib.Core.Bool.{Bool, cond}
use mathlib.Core.List.{List, []}
use lib.Dec.{eqb}
use Rattle.output.specs.Output.{Output, output}
use Rattle.message.specs.Delivery.{Sent}
use Rattle.message.proofs.DeliveryLaws.{as_sent}
use Rattle.machine.specs.declared.State.{State}
use Rattle.machine.specs.declared.Stored.{Stored}
use Rattle.machine.specs.declared.Answer.{Answer}
use Rattle.machine.specs.declared.Cause.{Cause}
use Rattle.machine.specs.Report.{Work}
use Rattle.machine.specs.Requests.{sends_only}
use Rattle.machine.specs.Declined.{Action, refusal}
use Rattle.machine.specs.Machine.{perform}
use Rattle.sampling.specs.Visits.{moment, visiting}
use Rattle.declining.proofs.AnswerLaws.{number_of, Answers, by_parts, refused, performed}
use Rattle.machine.proofs.TestLaws.{not_none}

module _ (s : State) (action : Action) (lent : List ℕ) {r : Answer} where
  -- what the machine makes of the call where the number is 0, else the state as it was and nothing sent
  pub one_exit : {n : ℕ} {out : List ℕ} → number_of s action lent ≡ n → refusal s n action ≡ [] → r.number ≡ n → r.state ≡ cond (eqb n 0) (perform s.sheet s action).next s
      → Sent (output lent 0) (cond (eqb n 0) (perform s.sheet s action).sent []) (output out r.written) → Answers s action lent r out
  one_exit {n = zero} e f q st d = performed s action lent e (by_parts r q) st d
  one_exit {n = suc n} {out} e f q st d =
      let untouched : output out r.written ≡ output lent 0 = rw (not_none n) at d.is in
      let same : out ≡ lent = ap (λ (x : Output). x.bytes) untouched in
      let none : r.written ≡ 0 = ap (λ (x : Output). x.at) untouched in
      let left : r.state ≡ s = rw (not_none n) at st in
      rw same (refused s action lent e (λ z. omega arith) f (rw (q, none, left)))

  -- a call that visits: what it comes to is what the machine makes of it where the number is 0, else nothing, with the state as it was
  pub visited : (visits : Bool) (cause : Cause) (clock : ℕ) (readings : List Stored) {n : ℕ} {out : List ℕ} → number_of s action lent ≡ n → refusal s n action ≡ []
      → (n ≡ 0 → visiting visits (moment s clock readings) cause ≡ perform s.sheet s action)
      → ((n ≡ 0 → ⊥) → visiting visits (moment s clock readings) cause ≡ sends_only s [])
      → r.number ≡ n → r.state ≡ (visiting visits (moment s clock readings) cause).next
      → Sent (output lent 0) (visiting visits (moment s clock readings) cause).sent (output out r.written) → Answers s action lent r out
  visited visits cause clock readings {n = zero} e f made same q st d =
      one_exit e f q (st ∙ ap (λ (w : Work). w.next) (made refl)) (as_sent d (ap (λ (w : Work). w.sent) (made refl)))
  visited visits cause clock readings {n = suc n} e f made same q st d =
      let z = not_none n in
      let left = same (λ z. omega arith) in
      one_exit e f q (rw z (st ∙ ap (λ (w : Work). w.next) left)) (rw z (as_sent d (ap (λ (w : Work). w.sent) left)))
