-- How long arguments and messages are at most.
use Prim.Native.Nat.{ℕ, suc, ◌+◌, ◌*◌, ◌≤◌}
use Prim.Native.Char.{code}
use native.Mathlib.Omega.{arith}
use mathlib.Core.Path.{◌≡◌, refl, ap}
use mathlib.Core.Bool.{Bool, true, false, cond, and-eq-true_iff}
use mathlib.Core.List.{List, [], ◌∷◌, ◌++◌}
use lib.Dec.{eqb, leb}
use lib.ListN.{length, take, length-append, length-take}
use borrow.Author.Tests.{leb-true}
use Rattle.output.specs.Text.{text, all}
use Rattle.output.specs.Number.{decimal}
use Rattle.output.proofs.LengthLaws.{length-decimal}
use Rattle.output.proofs.TextLaws.{Every}
use Rattle.message.specs.Message.{Message, Escape, escapes, escape_in, escape_byte, escape_all, escape, arg, args_text, id_text, write_to, write}
use Rattle.line.specs.Line.{kind_byte, title_byte, name_ok, starts_with_letter}
use Rattle.line.proofs.ParsedHead.{Head}
use Rattle.machine.specs.Places.{Each}
use Rattle.machine.specs.Messages.{inform_with, reply}
use Rattle.machine.proofs.SheetLaws.{Text}

-- Texts of the state.

pub text_short : {least most len : ℕ} {is : ℕ → Bool} {bytes : List ℕ} → Text least most is len bytes → length (take len bytes) ≤ most
text_short {len = len} {bytes = bytes} t = omega (arith, length-take len bytes, t.short)

-- Arguments.

in_length : (es : List Escape) (b : ℕ) → length (escape_in es b) ≤ 2
in_length [] b = omega arith
in_length (e ∷ es) b = go (eqb b e.byte) (in_length es b)
  where
    go : (t : Bool) → length (escape_in es b) ≤ 2 → length (cond t (code "\\" ∷ e.letter ∷ []) (escape_in es b)) ≤ 2
    go true h = omega arith
    go false h = h

all-length : (t : List ℕ) → length (escape_all t) ≤ 2 * length t
unfolding escape_byte
all-length [] = omega arith
all-length (b ∷ t) = let ih = all-length t in omega (arith, length-append (escape_byte b) (escape_all t), in_length escapes b)

-- each byte is written as two at most
pub arg_most : (t : List ℕ) → length (arg t) ≤ 3 + 2 * length t
unfolding arg escape
arg_most [] = omega arith
arg_most (b ∷ t) = omega (arith, all-length (b ∷ t))

-- a byte that is written as it is
abbrev pub Raw : ℕ → Type 0
Raw b = b ∷ [] ≡ escape_byte b

raw_length : (t : List ℕ) → Every Raw t → length (escape_all t) ≡ length t
raw_length [] h = refl
raw_length (b ∷ t) h = rw (← h.0) (ap suc (raw_length t h.1))

pub arg_raw : (t : List ℕ) → Every Raw t → length (arg t) ≤ 3 + length t
unfolding arg escape
arg_raw [] h = omega arith
arg_raw (b ∷ t) h = omega (arith, raw_length (b ∷ t) h)

-- a bound of arguments one after another
abbrev pub args_most : List (List ℕ) → ℕ
args_most [] = 0
args_most (a ∷ args) = 3 + 2 * length a + args_most args

pub args_most_lem : (args : List (List ℕ)) → length (args_text args []) ≤ args_most args
args_most_lem [] = omega arith
args_most_lem (a ∷ args) = omega (arith, length-append (arg a) (args_text args []), arg_most a, args_most_lem args)

-- arguments of at most k bytes each
pub args_short : (k : ℕ) (args : List (List ℕ)) → Each (λ a. length a ≤ k) args → args_most args ≤ length args * (3 + 2 * k)
args_short k [] h = omega arith
args_short k (a ∷ args) h = omega (arith, h.0, args_short k args h.1)

-- Messages.

id-length : (n : ℕ) → n ≤ 2147483647 → length (id_text n) ≤ 12
unfolding id_text
id-length n h = go (eqb n 0)
  where
    go : (t : Bool) → length (cond t [] (code "[" ∷ (decimal n ++ text "]"))) ≤ 12
    go true = omega arith
    go false = omega (arith, length-append (decimal n) (text "]"), length-decimal 9 n (omega arith) (omega arith))

-- a message of at most so many bytes that a line can carry
pub record Sound (most : ℕ) (m : Message) : Type 0 where
  pub head : Head m
  pub length_most : length (write m) ≤ most

write-length : (m : Message) → m.id ≤ 2147483647 → length (write m) ≤ 13 + length m.name + length (args_text m.args [])
unfolding write_to
write-length m h =
    omega (arith, length-append (m.kind ∷ m.name) (id_text m.id ++ args_text m.args []), length-append (id_text m.id) (args_text m.args []), id-length m.id h)

-- a name is at most 64 bytes
name-length : (name : List ℕ) → name_ok name ≡ true → length name ≤ 64
name-length name h = leb-true (length name) 64 ((and-eq-true_iff (leb (length name) 64) (starts_with_letter name)).0 h).0

-- an inform, by its name
pub sound_inform : (most id : ℕ) (name : List ℕ) (args : List (List ℕ)) → all title_byte name ≡ true → name_ok name ≡ true → id ≤ 2147483647
    → 13 + length name + args_most args ≤ most → Sound most (inform_with id name args)
unfolding kind_byte
sound_inform most id name args l n i h =
    record { head = record { kind = refl; letters = l; name = n; id = i }; length_most = omega (arith, write-length (inform_with id name args) i, args_most_lem args) }

-- a reply to a message that was read
pub sound_answer : (most : ℕ) (m : Message) (args : List (List ℕ)) → Head m → 77 + length (args_text args []) ≤ most → Sound most (reply m args)
unfolding kind_byte
sound_answer most m args r h = record {
  head = record { kind = refl; letters = r.letters; name = r.name; id = r.id };
  length_most = omega (arith, write-length (reply m args) r.id, name-length m.name r.name);
}

pub sound_reply : (most : ℕ) (m : Message) (args : List (List ℕ)) → Head m → 77 + args_most args ≤ most → Sound most (reply m args)
sound_reply most m args r h = sound_answer most m args r (omega (arith, args_most_lem args))
