-- Demand 2 over a whole list of calls: what the public equations of the calls come to, each call with the state that the last one returned.
use Rattle.std.specs.Prelude.{ℕ, ◌≡◌, List, [], ◌∷◌, map, take}
use Rattle.machine.specs.declared.State.{State}
use Rattle.machine.specs.declared.Answer.{Answer}
use Rattle.machine.specs.declared.Opened.{Opened}
use Rattle.machine.specs.Opening.{Start, opened}
use Rattle.machine.specs.Declined.{Call}
use Rattle.machine.specs.Machine.{Effect, step, written, answer_of, output_of}
use Rattle.machine.specs.TwoDevices.{returned, output_then}

-- what a call returned: its answer, and the lent output as it returned
pub record Return : Type 0 where
  pub answer : Answer
  pub output : List ℕ

-- what every call but opening promises, in its two equations
pub record Promised (s : State) (call : Call) (r : Return) : Type 0 where
  pub answer_is : r.answer ≡ answer_of (step s call)
  pub output_is : r.output ≡ output_of (step s call) call.lent

-- calls, first to last, and what each returned: "Each call gets the state the last one returned"
abbrev pub Driven : State → List Call → List Return → Type 0
Driven s [] [] = Unit
Driven s [] (r ∷ rs) = ⊥
Driven s (call ∷ calls) [] = ⊥
Driven s (call ∷ calls) (r ∷ rs) = Promised s call r × Driven r.answer.state calls rs

-- the machine's run: what each call comes to, from the state that the last one left
abbrev pub run : State → List Call → List Effect
run s [] = []
run s (call ∷ calls) = step s call ∷ run (step s call).next calls

-- what is seen of a call: its number, the bytes that it counts as written, the state
pub record Seen : Type 0 where
  pub number : ℕ
  pub bytes : List ℕ
  pub state : State

-- of what it returned: the bytes as they stand in the output
abbrev pub seen : Return → Seen
seen r = record { number = r.answer.number; bytes = take r.answer.written r.output; state = r.answer.state }

-- of what the machine makes of it
abbrev pub shown : Effect → Seen
shown e = record { number = e.number; bytes = written e; state = e.next }

-- what each call returns in the terms of "Two devices", after the calls h, the latest of these first
abbrev pub returns : Start → List Call → List Call → List Return
returns start h [] = []
returns start h (call ∷ calls) = record { answer = returned start h call; output = output_then start h call } ∷ returns start (call ∷ h) calls

-- numbers, bytes and states are those of the machine's run, and demand 3 reads them off what the calls returned
pub record Delivers (start : Start) (calls : List Call) (rs : List Return) : Type 0 where
  pub run_is : map seen rs ≡ map shown (run (opened start).state calls)
  pub returns_are : rs ≡ returns start [] calls

-- for every sheet, either profile, every list of calls and every lent output
abbrev pub Delivered : Type 0
Delivered = (start : Start) (o : Opened) → o ≡ opened start → (calls : List Call) (rs : List Return) → Driven o.state calls rs → Delivers start calls rs
