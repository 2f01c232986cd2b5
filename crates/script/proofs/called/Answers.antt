-- By the word, the number of words behind it, and those that stand for bytes.
use Prim.Native.Nat.{ℕ, ◌≤◌}
use native.Mathlib.Omega.{arith}
use mathlib.Core.Path.{◌≡◌, sym, ◌∙◌}
use mathlib.Core.Bool.{Bool, true, ◌&&◌}
use lib.Dec.{leb}
use borrow.Author.Tests.{leb-true}
use Rattle.machine.proofs.TestLaws.{and_true}
use Rattle.script.specs.Script.{called}
use Rattle.script.proofs.called.Goals as goal

-- a level that is taken for a byte is one
byte-level : (n : ℕ) (a b : Bool) → (a && (leb n 255 && b)) ≡ true → n ≤ 255
byte-level n a b h = leb-true n 255 (and_true (leb n 255) b (and_true a (leb n 255 && b) h).1).0

pub returns-then-has_words-has_bytes : goal.returns-then-has_words-has_bytes
unfolding called
returns-then-has_words-has_bytes c = rw (rw (c.has_words.ensures, c.has_bytes.ensures) at c.if-has_words-has_bytes.true)

pub returns-then-has_words : goal.returns-then-has_words
unfolding called
returns-then-has_words c = rw (rw (c.has_words.ensures, c.has_bytes.ensures) at c.if-has_words-has_bytes.false, sym c.has_words-2.ensures ∙ c.if-has_words.true)

pub returns-then-has_words-2 : goal.returns-then-has_words-2
unfolding called
returns-then-has_words-2 c = rw (
  rw (c.has_words.ensures, c.has_bytes.ensures) at c.if-has_words-has_bytes.false,
  sym c.has_words-2.ensures ∙ c.if-has_words.false,
  sym c.has_words-3.ensures ∙ c.if-has_words-2.true,
)

pub returns-then-is_reading : goal.returns-then-is_reading
unfolding called
returns-then-is_reading c = rw (
  rw (c.has_words.ensures, c.has_bytes.ensures) at c.if-has_words-has_bytes.false,
  sym c.has_words-2.ensures ∙ c.if-has_words.false,
  sym c.has_words-3.ensures ∙ c.if-has_words-2.false,
  sym c.is_reading.ensures ∙ c.if-is_reading.true,
) c.reading_command.ensures

pub overflow_cast-result : goal.overflow_cast-result
overflow_cast-result c = omega (arith, byte-level c.args.n c.has_words-4.result _ c.if-has_words-n.true)

pub returns-then-has_words-n : goal.returns-then-has_words-n
unfolding called
returns-then-has_words-n c = rw (
  rw (c.has_words.ensures, c.has_bytes.ensures) at c.if-has_words-has_bytes.false,
  sym c.has_words-2.ensures ∙ c.if-has_words.false,
  sym c.has_words-3.ensures ∙ c.if-has_words-2.false,
  sym c.is_reading.ensures ∙ c.if-is_reading.false,
  rw (c.has_words-4.ensures, c.has_bytes-2.ensures, c.has_bytes-3.ensures) at c.if-has_words-n.true,
)

pub returns-then-has_words-has_bytes-2 : goal.returns-then-has_words-has_bytes-2
unfolding called
returns-then-has_words-has_bytes-2 c = rw (
  rw (c.has_words.ensures, c.has_bytes.ensures) at c.if-has_words-has_bytes.false,
  sym c.has_words-2.ensures ∙ c.if-has_words.false,
  sym c.has_words-3.ensures ∙ c.if-has_words-2.false,
  sym c.is_reading.ensures ∙ c.if-is_reading.false,
  rw (c.has_words-4.ensures, c.has_bytes-2.ensures, c.has_bytes-3.ensures) at c.if-has_words-n.false,
  rw (c.has_words-5.ensures, c.has_bytes-4.ensures) at c.if-has_words-has_bytes-2.true,
)

pub returns : goal.returns
unfolding called
returns c = rw (
  rw (c.has_words.ensures, c.has_bytes.ensures) at c.if-has_words-has_bytes.false,
  sym c.has_words-2.ensures ∙ c.if-has_words.false,
  sym c.has_words-3.ensures ∙ c.if-has_words-2.false,
  sym c.is_reading.ensures ∙ c.if-is_reading.false,
  rw (c.has_words-4.ensures, c.has_bytes-2.ensures, c.has_bytes-3.ensures) at c.if-has_words-n.false,
  rw (c.has_words-5.ensures, c.has_bytes-4.ensures) at c.if-has_words-has_bytes-2.false,
)
