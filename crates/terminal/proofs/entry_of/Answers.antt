-- The tests in the order of the definition.
use borrow.Author.Tests.{lt-ltb, le-ltb}
use Rattle.terminal.specs.Entry.{entry_of}
use Rattle.terminal.proofs.entry_of.Goals as goal

pub returns-then-line-gt-LONGEST : goal.returns-then-line-gt-LONGEST
unfolding entry_of
returns-then-line-gt-LONGEST c = rw (lt-ltb 2048 _ c.if-line-gt-LONGEST.true)

pub returns-then-has_words : goal.returns-then-has_words
unfolding entry_of
returns-then-has_words c = rw (le-ltb 2048 _ c.if-line-gt-LONGEST.false, ← c.has_words.ensures, c.if-has_words.true) c.tick_entry.ensures

pub returns-then-has_words-2 : goal.returns-then-has_words-2
unfolding entry_of
returns-then-has_words-2 c = rw (
  le-ltb 2048 _ c.if-line-gt-LONGEST.false,
  ← c.has_words.ensures,
  c.if-has_words.false,
  ← c.has_words-2.ensures,
  c.if-has_words-2.true,
) c.reading_entry.ensures

pub returns : goal.returns
unfolding entry_of
returns c = rw (
  le-ltb 2048 _ c.if-line-gt-LONGEST.false,
  ← c.has_words.ensures,
  c.if-has_words.false,
  ← c.has_words-2.ensures,
  c.if-has_words-2.false,
)
