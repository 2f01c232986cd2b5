-- A request is answered `ok` exactly where its call returns 0.
use Prim.Native.Nat.{ℕ, suc}
use mathlib.Core.Path.{◌≡◌, refl, ap, ap₂, sym, ◌∙◌, subst}
use mathlib.Core.Bool.{Bool, true, false, ◌&&◌, ◌||◌}
use mathlib.Core.List.{List, map}
use Rattle.output.specs.Text.{same}
use Rattle.output.proofs.TextLaws.{same_true}
use Rattle.message.specs.Delivery.{packet}
use Rattle.machine.specs.declared.State.{State}
use Rattle.machine.specs.declared.Request.{Request}
use Rattle.machine.specs.declared.Request.TheVariants.{Halt, Restart}
use Rattle.machine.specs.Places.{is_zero}
use Rattle.machine.specs.Requests.{Asked, Nothing, NotMessage, Reply, Unknown, Asks, asked, answer}
use Rattle.machine.specs.Declined.{Action, Connect, Disconnect, Tick, Reading, Log, Line, call_of}
use Rattle.machine.specs.Machine.{Effect, perform, line_work, step}
use Rattle.machine.specs.TwoDevices.{granted, ends_all}
use Rattle.machine.proofs.StepLaws.{by_cases, name_for, asks_is, names_apart_lem}
use Rattle.machine.proofs.AnsweredLaws.{ok_in, answered_is, refused_not_ok, asks_for, request_is, AnswersOk, halt_ok, restart_ok}
use Rattle.machine.proofs.NextLaws.{ends_connections}
use Rattle.machine.proofs.Sent.{sent_well_formed}

and_none : (b : Bool) → false ≡ (b && false)
and_none true = refl
and_none false = refl

module _ (s : State) (c : ℕ) (line lent : List ℕ) (r : Request) (ok : AnswersOk s r) where
  -- a line that asks and is carried out
  asked_ok : (w : Asked) → asked line ≡ w → (asks_for r w && ok_in (name_for r) c (line_work s.sheet s c w).sent) ≡ asks_for r w
  unfolding line_work
  asked_ok Nothing e = refl
  asked_ok NotMessage e = refl
  asked_ok Reply e = refl
  asked_ok (Unknown m) e = refl
  asked_ok (Asks q m) e = go (same (name_for q) (name_for r)) refl
    where
      go : (b : Bool) → same (name_for q) (name_for r) ≡ b → (b && ok_in (name_for r) c (answer s.sheet s c q m).sent) ≡ b
      go false p = refl
      go true p = let z = names_apart_lem q r (same_true (name_for q) (name_for r) p) in
          subst (λ k. ok_in (name_for r) c (answer s.sheet s c k m).sent ≡ true) (sym z) (ok c m ((asks_is line q m e).named ∙ ap name_for z))

  ok_sent : (asks_for r (asked line) && ok_in (name_for r) c (step s (call_of (Line c line) lent)).sent) ≡ (is_zero (step s (call_of (Line c line) lent)).number && asks_for r (asked line))
  unfolding perform
  ok_sent = by_cases (λ (e : Effect). (asks_for r (asked line) && ok_in (name_for r) c e.sent) ≡ (is_zero e.number && asks_for r (asked line))) s (call_of (Line c line) lent)
      (λ _. asked_ok (asked line) refl)
      (λ n _. ap (λ b. asks_for r (asked line) && b) (refused_not_ok (name_for r) c s (suc n) (Line c line)) ∙ sym (and_none (asks_for r (asked line))))

module _ (s : State) where
  pub granted_is : (c : ℕ) (line lent : List ℕ) (r : Request) → AnswersOk s r
      → granted (name_for r) c line (map packet (step s (call_of (Line c line) lent)).sent) ≡ (is_zero (step s (call_of (Line c line) lent)).number && asks_for r (asked line))
  granted_is c line lent r ok = ap₂ ◌&&◌ (request_is r line) (answered_is (name_for r) c _ (sent_well_formed s (call_of (Line c line) lent))) ∙ ok_sent s c line lent r ok

  none_ends : (action : Action) (lent : List ℕ) → false ≡ (is_zero (step s (call_of action lent)).number && false)
  none_ends action lent = and_none (is_zero (step s (call_of action lent)).number)

  pub ends_is : (action : Action) (lent : List ℕ) → ends_all action (map packet (step s (call_of action lent)).sent) ≡ (is_zero (step s (call_of action lent)).number && ends_connections action)
  ends_is (Connect c address) lent = none_ends (Connect c address) lent
  ends_is (Disconnect c) lent = none_ends (Disconnect c) lent
  ends_is (Tick t) lent = none_ends (Tick t) lent
  ends_is (Reading j r) lent = none_ends (Reading j r) lent
  ends_is (Log level logger said) lent = none_ends (Log level logger said) lent
  ends_is (Line c line) lent = ap₂ ◌||◌ (granted_is c line lent Halt (halt_ok s)) (granted_is c line lent Restart (restart_ok s)) ∙ go (is_zero (step s (call_of (Line c line) lent)).number) (asks_for Halt (asked line)) (asks_for Restart (asked line))
    where
      go : (z p q : Bool) → ((z && p) || (z && q)) ≡ (z && (p || q))
      go true p q = refl
      go false p q = refl
