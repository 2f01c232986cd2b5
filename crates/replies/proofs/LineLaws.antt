-- Arguments written one after another, and those of a reply behind its start.
use Prim.Native.Nat.{ℕ, ◌+◌}
use native.Mathlib.Numerals.{add-one}
use mathlib.Core.Path.{◌≡◌, sym}
use mathlib.Core.List.{List, [], ◌∷◌, ◌++◌, append_assoc}
use Rattle.output.specs.Output.{Output, Wrote}
use Rattle.output.proofs.OutputLaws.{then, said, alone}
use Rattle.message.specs.Message.{Message, message, arg, args_text, write_to, write}
use Rattle.message.proofs.MessageLaws.{args-append, args_end}
use Rattle.machine.specs.Places.{tabulate}
use Rattle.machine.specs.Messages.{ok_reply}

-- a message, then further arguments of it
more_args : (m : Message) (args : List (List ℕ)) (end : List ℕ) → write m ++ args_text args end ≡ write_to end (message m.kind m.name m.id (m.args ++ args))
unfolding write_to
more_args m args end = rw (← args-append m.args args end, args_end m.args (args_text args end), append_assoc, append_assoc)

pub ok_line : (m : Message) (args : List (List ℕ)) (end : List ℕ) → write (ok_reply m []) ++ args_text args end ≡ write_to end (ok_reply m args)
ok_line m args end = more_args (ok_reply m []) args end

-- arguments and then the end of the line
pub args_ended : {p q r : Output} (xs : List (List ℕ)) (end : List ℕ) → Wrote p (args_text xs []) q → Wrote q end r → Wrote p (args_text xs end) r
args_ended xs end e f = said (then e f) (sym (args_end xs end))

-- arguments and then others
pub args_then : {p q r : Output} (xs ys : List (List ℕ)) → Wrote p (args_text xs []) q → Wrote q (args_text ys []) r → Wrote p (args_text (xs ++ ys) []) r
args_then xs ys e f = said (args_ended xs (args_text ys []) e f) (args-append xs ys [])

-- arguments by place, and then the next
pub next_arg : {p q r : Output} (f : ℕ → List ℕ) (k : ℕ) → Wrote p (args_text (tabulate f k) []) q → Wrote q (arg (f k)) r → Wrote p (args_text (tabulate f (k + 1)) []) r
unfolding tabulate
next_arg f k e g = rw add-one (args_then (tabulate f k) (f k ∷ []) e (alone g))
