-- By the command: none, `error`, or a call.
use Prim.Native.Nat.{ℕ}
use mathlib.Core.Path.{◌≡◌, refl}
use mathlib.Core.List.{List}
use Rattle.std.specs.Prelude.{Some}
use Rattle.output.proofs.OutputLaws.{blank, said}
use Rattle.script.specs.declared.Command.{Command}
use Rattle.script.specs.declared.Command.TheVariants.{Passed, Open, Connect, Disconnect, Tick, Reading, Log, Line}
use Rattle.script.specs.Replay.{answer_line, reply}
use Rattle.script.proofs.put_reply.Goals as goal

-- a call is answered by its number and its bytes
call_answered : (n : ℕ) (bs : List ℕ) (command : Command) → (command ≡ Passed → ⊥) → answer_line n bs ≡ reply (Some command) n bs
unfolding reply
call_answered n bs Passed h = absurd (h refl)
call_answered n bs (Open profile) h = refl
call_answered n bs (Connect client) h = refl
call_answered n bs (Disconnect client) h = refl
call_answered n bs (Tick ms) h = refl
call_answered n bs (Reading sensor r time) h = refl
call_answered n bs (Log level) h = refl
call_answered n bs (Line client) h = refl

pub returns-in_default : goal.returns-in_default
unfolding reply
returns-in_default c = rw c.in_default.is c.put_bytes.ensures

pub returns-in-Passed : goal.returns-in-Passed
unfolding reply
returns-in-Passed c = rw (c.in-Some.is, c.in-Passed.is) blank

pub returns-in_default-call : goal.returns-in_default-call
returns-in_default-call c = rw c.in-Some.is (said c.put_answer.ensures (call_answered _ _ _ c.in_default-call.not-Passed))
