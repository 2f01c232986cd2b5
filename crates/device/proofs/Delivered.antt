-- The calls deliver the machine's run.
use Prim.Native.Nat.{ℕ}
use mathlib.Core.Path.{◌≡◌, refl, ap, ◌∙◌, subst}
use mathlib.Core.List.{List, [], ◌∷◌, map}
use lib.ListN.{length, drop}
use lib.Seq.{take-append_seam}
use Rattle.machine.specs.declared.State.{State}
use Rattle.machine.specs.declared.Answer.{Answer}
use Rattle.machine.specs.declared.Opened.{Opened}
use Rattle.machine.specs.Opening.{Start, opened}
use Rattle.machine.specs.Declined.{Call}
use Rattle.machine.specs.Machine.{step, written}
use Rattle.machine.specs.TwoDevices.{after, returned}
use Rattle.device.specs.Delivered.{Return, Promised, Driven, run, seen, shown, returns, Delivered}

-- a return by its two equations
both : (r : Return) {a : Answer} {o : List ℕ} → r.answer ≡ a → r.output ≡ o → r ≡ record { answer = a; output = o }
both r e f = rw (e, f)

-- what a promise gives to be seen
promised : (s : State) (call : Call) (r : Return) → Promised s call r → seen r ≡ shown (step s call)
promised s call r p =
    ap (λ (x : Return). seen x) (both r p.answer_is p.output_is)
    ∙ ap (λ (bs : List ℕ). record { number = (step s call).number; bytes = bs; state = (step s call).next }) (take-append_seam (written (step s call)) (drop (length (written (step s call))) call.lent))

run_is : (s : State) (calls : List Call) (rs : List Return) → Driven s calls rs → map seen rs ≡ map shown (run s calls)
run_is s [] [] d = refl
run_is s [] (r ∷ rs) d = absurd d
run_is s (call ∷ calls) [] d = absurd d
run_is s (call ∷ calls) (r ∷ rs) d =
    let next : r.answer.state ≡ (step s call).next = ap (λ (a : Answer). a.state) d.0.answer_is in
    let rest : map seen rs ≡ map shown (run (step s call).next calls) = run_is (step s call).next calls rs (subst (λ (t : State). Driven t calls rs) next d.1) in
    rw (promised s call r d.0, rest)

returns_are : (start : Start) (h calls : List Call) (rs : List Return) → Driven (after start h) calls rs → rs ≡ returns start h calls
unfolding after
returns_are start h [] [] d = refl
returns_are start h [] (r ∷ rs) d = absurd d
returns_are start h (call ∷ calls) [] d = absurd d
returns_are start h (call ∷ calls) (r ∷ rs) d =
    let next : r.answer.state ≡ (returned start h call).state = ap (λ (a : Answer). a.state) d.0.answer_is in
    let rest : rs ≡ returns start (call ∷ h) calls = returns_are start (call ∷ h) calls rs (subst (λ (t : State). Driven t calls rs) next d.1) in
    joined (both r d.0.answer_is d.0.output_is) rest
  where
    joined : {r q : Return} {rs qs : List Return} → r ≡ q → rs ≡ qs → ◌≡◌ {A = List Return} (r ∷ rs) (q ∷ qs)
    joined e f = rw (e, f)

pub delivered : Delivered
unfolding after
delivered start o e calls rs d =
    let driven : Driven (opened start).state calls rs = subst (λ (x : Opened). Driven x.state calls rs) e d in
    record { run_is = run_is (opened start).state calls rs driven; returns_are = returns_are start [] calls rs driven }
