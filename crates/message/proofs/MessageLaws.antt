-- Laws of escapes, identifiers and arguments.
use Prim.Native.Nat.{ℕ, ◌+◌, ◌<◌, ◌≤◌}
use Prim.Native.Char.{code}
use native.Mathlib.Omega.{arith}
use native.Mathlib.Numerals.{add-one}
use mathlib.Core.Path.{◌≡◌, refl, ap, sym, ◌∙◌}
use mathlib.Core.List.{List, [], ◌∷◌, ◌++◌, append_assoc, append-nil}
use lib.ListN.{length, take, get_or}
use lib.Seq.{take-suc, take_all}
use borrow.Author.Tests.{eq-eqb, ne_eqb}
use Rattle.output.specs.Text.{text}
use Rattle.output.specs.declared.Notation.{Notation}
use Rattle.output.specs.declared.Notation.TheVariants.{Decimal, Time, Integer, Float, Difference, WholeDifference}
use Rattle.output.specs.Number.{digit, decimal, time, integer, float, difference, whole_difference, number_text}
use Rattle.output.specs.Output.{Output, Wrote}
use Rattle.output.proofs.OutputLaws.{then}
use Rattle.output.proofs.TextLaws.{Every, every_decimal, every_time, every_integer, every_float, every_difference, every_whole_difference, some_decimal, some_time, some_integer, some_float, some_difference, some_whole_difference}
use Rattle.message.specs.Message.{Message, message, escape_byte, escape_all, escape, arg, args_text, id_text, write_to, write, line}

-- a byte that is none of the seven
pub raw : (b : ℕ) → (b ≡ 92 → ⊥) → (b ≡ 32 → ⊥) → (b ≡ 0 → ⊥) → (b ≡ 10 → ⊥) → (b ≡ 13 → ⊥) → (b ≡ 27 → ⊥) → (b ≡ 9 → ⊥) → b ∷ [] ≡ escape_byte b
unfolding escape_byte
raw b h1 h2 h3 h4 h5 h6 h7 =
    rw (ne_eqb b 92 h1, ne_eqb b 32 h2, ne_eqb b 0 h3, ne_eqb b 10 h4, ne_eqb b 13 h5, ne_eqb b 27 h6, ne_eqb b 9 h7)

escape_all-append : (a b : List ℕ) → escape_all (a ++ b) ≡ escape_all a ++ escape_all b
escape_all-append [] b = refl
escape_all-append (x ∷ a) b = rw (escape_all-append a b, append_assoc)

-- one more byte of an argument
pub more : {p q r : Output} (s : List ℕ) (i : ℕ) → i < length s → Wrote p (escape_all (take i s)) q → Wrote q (escape_byte (get_or s i 0)) r → Wrote p (escape_all (take (i + 1) s)) r
more {p} {q} {r} s i h e f = rw (add-one, take-suc s i 0 h, escape_all-append, append-nil) (then e f)

-- all of an argument
pub whole : {p q : Output} (s : List ℕ) (i : ℕ) → 0 < length s → length s ≤ i → Wrote p (escape_all (take i s)) q → Wrote p (escape s) q
unfolding escape
whole [] i n h e = absurd (omega arith)
whole (b ∷ s) i n h e = rw (take_all i (b ∷ s) h) at e

-- an empty argument: no byte, and then what stands for it
pub empty : {p q r : Output} (s : List ℕ) (i : ℕ) → length s ≡ 0 → Wrote p (escape_all (take i s)) q → Wrote q (text "\\@") r → Wrote p (escape s) r
unfolding escape
empty [] i h e f = then (rw (take_all {A = ℕ} i [] (omega arith)) at e) f
empty (b ∷ s) i h e f = absurd (omega arith)

pub id_none : (n : ℕ) → n ≡ 0 → [] ≡ id_text n
unfolding id_text
id_none n h = rw (eq-eqb n 0 h)

pub id_some : (n : ℕ) → (n ≡ 0 → ⊥) → code "[" ∷ (decimal n ++ text "]") ≡ id_text n
unfolding id_text
id_some n h = rw (ne_eqb n 0 h)

-- some arguments, then the others
pub args-append : (xs ys : List (List ℕ)) (end : List ℕ) → args_text xs (args_text ys end) ≡ args_text (xs ++ ys) end
args-append [] ys end = refl
args-append (a ∷ xs) ys end = ap (λ (t : List ℕ). arg a ++ t) (args-append xs ys end)

-- what ends the line stands behind the arguments
pub args_end : (xs : List (List ℕ)) (end : List ℕ) → args_text xs end ≡ args_text xs [] ++ end
args_end [] end = refl
args_end (a ∷ xs) end = ap (λ (t : List ℕ). arg a ++ t) (args_end xs end) ∙ sym (append_assoc (arg a) (args_text xs []) end)

-- one argument more
pub arg_more : {p q r : Output} (xs : List (List ℕ)) (a : List ℕ) → Wrote p (args_text xs []) q → Wrote q (arg a) r → Wrote p (args_text (xs ++ a ∷ []) []) r
arg_more {p} {q} {r} xs a e f = rw (← args-append xs (a ∷ []) [], args_end xs (args_text (a ∷ []) []), append-nil (arg a)) (then e f)

-- a line: what ends it stands behind the arguments
pub said_line : {p q : Output} (kind : ℕ) (name : List ℕ) (id : ℕ) (args : List (List ℕ))
    → Wrote p ((kind ∷ name) ++ (id_text id ++ (args_text args [] ++ (10 ∷ [])))) q → Wrote p (line (message kind name id args)) q
unfolding write_to
said_line kind name id args e = rw (args_end args (10 ∷ [])) e

-- a line is the written message and byte 10
pub line_end : (m : Message) → line m ≡ write m ++ (10 ∷ [])
unfolding write_to
line_end m =
    rw (args_end m.args (10 ∷ []), append_assoc, append_assoc)

-- The texts of numbers are digits, points and minuses, which need no escapes.

abbrev Mild : ℕ → Type 0
Mild b = (45 ≤ b) × (b < 58)

escape_all_mild : (s : List ℕ) → Every Mild s → escape_all s ≡ s
escape_all_mild [] h = refl
escape_all_mild (b ∷ s) h =
    let l : 45 ≤ b = h.0.0 in
    let r : b < 58 = h.0.1 in
    rw (← raw b (λ e. omega arith) (λ e. omega arith) (λ e. omega arith) (λ e. omega arith) (λ e. omega arith) (λ e. omega arith) (λ e. omega arith), escape_all_mild s h.1)

mild_digit : (n : ℕ) → Mild (digit n)
mild_digit n = (omega arith, omega arith)

-- a text of such bytes that is not empty is written as it is
arg_mild : (s : List ℕ) → 0 < length s → Every Mild s → code " " ∷ s ≡ arg s
unfolding arg escape
arg_mild [] n h = absurd (omega arith)
arg_mild (b ∷ s) n h = ap (λ (x : List ℕ). 32 ∷ x) (sym (escape_all_mild (b ∷ s) h))

pub arg_number : (k : Notation) (n : ℕ) → code " " ∷ number_text k n ≡ arg (number_text k n)
arg_number Decimal n = arg_mild (decimal n) (some_decimal n) (every_decimal Mild mild_digit n)
arg_number Time n = arg_mild (time n) (some_time n) (every_time Mild mild_digit (omega arith, omega arith) n)
arg_number Integer n = arg_mild (integer n) (some_integer n) (every_integer Mild mild_digit (omega arith, omega arith) n)
arg_number Float n = arg_mild (float n) (some_float n) (every_float Mild mild_digit (omega arith, omega arith) (omega arith, omega arith) n)
arg_number Difference n = arg_mild (difference n) (some_difference n) (every_difference Mild mild_digit (omega arith, omega arith) n)
arg_number WholeDifference n = arg_mild (whole_difference n) (some_whole_difference n) (every_whole_difference Mild mild_digit n)
