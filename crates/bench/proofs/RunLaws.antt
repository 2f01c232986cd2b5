-- Calls one after another, one more at a time.
use Prim.Native.Nat.{ℕ, ◌+◌, ◌≤◌}
use native.Mathlib.Numerals.{add-one}
use native.Mathlib.Omega.{arith}
use mathlib.Core.Path.{◌≡◌, refl, ◌∙◌}
use mathlib.Core.Bool.{Bool, true, false, cond}
use mathlib.Core.List.{List}
use Rattle.machine.specs.declared.State.{State}
use Rattle.machine.specs.declared.Answer.{Answer}
use Rattle.machine.specs.Declined.{Action, call_of}
use Rattle.machine.specs.Machine.{step, answer_of, output_of}
use Rattle.bench.specs.Runs.{Run, is_taken, begun, runs, repeated}

-- the state, the count and the output after k calls
pub record Reached (act : ℕ → Action) (r : Run) (k : ℕ) (s : State) (t : ℕ) (out : List ℕ) : Type 0 where
  pub state_is : s ≡ (runs act r k).state
  pub taken_is : t ≡ (runs act r k).taken
  pub output_is : out ≡ (runs act r k).out

module _ (act : ℕ → Action) where
  pub starts : (s : State) (out : List ℕ) → Reached act (begun s out) 0 s 0 out
  unfolding runs
  starts s out = record { state_is = refl; taken_is = refl; output_is = refl }

  pub goes_on_lem : {r : Run} {k t u : ℕ} {s : State} {out after : List ℕ} {a : Answer} → Reached act r k s t out → a ≡ answer_of (step s (call_of (act k) out))
      → after ≡ output_of (step s (call_of (act k) out)) out → u ≡ cond (is_taken a after) (t + 1) t → Reached act r (k + 1) a.state u after
  unfolding runs
  goes_on_lem {k = k} {t = t} h e f g =
      record {
        state_is = rw (e, h.state_is, h.output_is, add-one k);
        taken_is = rw (g, e, f, add-one t, h.taken_is, h.state_is, h.output_is, add-one k);
        output_is = rw (f, h.state_is, h.output_is, add-one k);
      }

-- a count that is k or 0
pub at_most_lem : (b : Bool) (k : ℕ) {p : ℕ} → p ≡ cond b k 0 → p ≤ k
at_most_lem true k e = omega arith
at_most_lem false k e = omega arith

pub none_yet : (b : Bool) → ◌≡◌ {A = ℕ} 0 (cond b 0 0)
none_yet true = refl
none_yet false = refl

pub one_more : (b : Bool) (k : ℕ) {ok : Bool} {p q : ℕ} → ok ≡ b → p ≡ cond b k 0 → q ≡ cond ok (p + 1) p → q ≡ cond b (k + 1) 0
one_more true k h e f = f ∙ rw (h, e)
one_more false k h e f = f ∙ rw (h, e)

-- as many calls as there were at the end
pub ends : {act : ℕ → Action} {r : Run} {k n t : ℕ} {s : State} {out : List ℕ} → k ≡ n → Reached act r k s t out
    → (record { state = s; taken = t } ≡ repeated (runs act r n)) × (out ≡ (runs act r n).out)
ends e h = (rw (h.state_is, h.taken_is, e), rw (← e) h.output_is)
