-- What a call answers and leaves on its output: by the number that declines it, or by what it sends.
use Rattle.std.specs.Prelude.{Result, Err}
use Prim.Native.Nat.{ℕ, zero, suc, ◌≤◌}
use native.Mathlib.Omega.{arith}
use mathlib.Core.Path.{◌≡◌, refl, sym, ◌∙◌, ap, subst}
use mathlib.Core.Bool.{Bool, cond, not}
use mathlib.Core.List.{List, []}
use lib.Dec.{ltb}
use lib.ListN.{length}
use Rattle.output.specs.Output.{output}
use Rattle.message.specs.Delivery.{Sent, deliveries}
use Rattle.message.proofs.DeliveryLaws.{at_start}
use Rattle.machine.specs.declared.State.{State}
use Rattle.machine.specs.declared.Answer.{Answer}
use Rattle.machine.specs.declared.Refusal.{Refusal}
use Rattle.machine.specs.Range.{in_range}
use Rattle.machine.specs.Refusals.{refusal_number, number_in}
use Rattle.machine.specs.Declined.{Action, call_of, action_declined, declined, refusal}
use Rattle.machine.specs.Machine.{outcome, perform, step, answer_of, output_of}
use Rattle.machine.proofs.TestLaws.{passed}
use Rattle.machine.proofs.RefusalLaws.{not_zero}
use Rattle.machine.proofs.StepLaws.{accepted}
use Rattle.machine.proofs.Sent.{fits}

-- rows 1, 2 and 3, and then the call's own
abbrev pub rows_then : Bool → State → List ℕ → ℕ → ℕ
rows_then good s lent own = cond (not good) 1 (cond (ltb (length lent) 65536) 2 (cond s.halted 3 own))

-- where none declines, the call's own do not
pub own_passes : (s : State) (lent : List ℕ) {good : Bool} {own rest n : ℕ} → good ≡ in_range s → own ≡ rest → n ≡ rows_then good s lent own → n ≡ 0 → rest ≡ 0
own_passes s lent {good} {own} g f e h =
    let a = passed (not good) 1 _ (omega arith) (sym e ∙ h) in
    let b = passed (ltb (length lent) 65536) 2 _ (omega arith) a.1 in
    sym f ∙ (passed s.halted 3 own (omega arith) b.1).1

-- the number of a call
abbrev pub number_of : State → Action → List ℕ → ℕ
number_of s action lent = declined s.sheet s (call_of action lent)

-- what the calls promise of an answer and of the output at exit
abbrev pub Answers : State → Action → List ℕ → Answer → List ℕ → Type 0
Answers s action lent r out = (r ≡ answer_of (step s (call_of action lent))) × (out ≡ output_of (step s (call_of action lent)) lent)

-- an answer of number 0 by its parts
pub by_parts : (r : Answer) → r.number ≡ 0 → r ≡ record { number = 0; written = r.written; state = r.state }
by_parts r e = ap (counted r) e
  where
    counted : Answer → ℕ → Answer
    counted r n = record { number = n; written = r.written; state = r.state }

-- an answer by its parts
by_all : (r : Answer) {n w : ℕ} {next : State} → r.number ≡ n → r.written ≡ w → r.state ≡ next → r ≡ record { number = n; written = w; state = next }
by_all r e f g = rw (e, f, g)

module _ (s : State) (action : Action) (lent : List ℕ) where
  -- the number of a call is that of its rows
  pub declined_by : {good : Bool} {own n : ℕ} → good ≡ in_range s → own ≡ action_declined s.sheet s action → n ≡ rows_then good s lent own → number_of s action lent ≡ n
  unfolding declined
  declined_by g f e = rw (e, g, f)

  -- a call that is declined and sends nothing leaves all as it was
  pub refused : {n : ℕ} {r : Answer} → number_of s action lent ≡ n → (n ≡ 0 → ⊥) → refusal s n action ≡ []
      → r ≡ record { number = n; written = 0; state = s } → Answers s action lent r lent
  unfolding outcome deliveries
  refused {n = zero} e h f q = absurd (h refl)
  refused {n = suc n} e h f q = (rw (q, e, f), rw (e, f))

  -- the same by the row that declines it
  pub turned_away : {A : Type 0} {v : Result A Refusal} {row : Refusal} {r : Answer} → number_of s action lent ≡ number_in v → v ≡ Err row → refusal s (number_in v) action ≡ []
      → r ≡ record { number = refusal_number row; written = 0; state = s } → Answers s action lent r lent
  turned_away e i f q = refused e (not_zero i) f (q ∙ ap (λ (n : ℕ). record { number = n; written = 0; state = s }) (sym (ap number_in i)))

  -- a call that gives what the machine makes of it, with room for every output
  pub answers : {r : Answer} {out : List ℕ} → 65536 ≤ length lent → r.number ≡ (step s (call_of action lent)).number → r.state ≡ (step s (call_of action lent)).next
      → Sent (output lent 0) (step s (call_of action lent)).sent (output out r.written) → Answers s action lent r out
  answers {r = r} room e f d =
      let laid-down = at_start d (omega (arith, (fits s (call_of action lent)).0)) in
      (by_all r e laid-down.0 f, laid-down.1)

  -- a call that is carried out
  pub performed : {out : List ℕ} {w : ℕ} {next : State} {r : Answer} → number_of s action lent ≡ 0 → r ≡ record { number = 0; written = w; state = next }
      → next ≡ (perform s.sheet s action).next → Sent (output lent 0) (perform s.sheet s action).sent (output out w) → Answers s action lent r out
  unfolding outcome
  performed {out} {w} {next} {r} e q f d =
      subst (λ (x : Answer). Answers s action lent x out) (sym q)
      (answers {r = record { number = 0; written = w; state = next }} (accepted s (call_of action lent) e).room (rw e) (rw (e, f)) (rw e d))
