-- The words behind the first blank are those from the end of the first word on.
use mathlib.Core.Path.{sym}
use Rattle.line.proofs.WordLaws.{behind_words}
use Rattle.line.proofs.behind.Goals as goal

pub returns : goal.returns
returns c = rw (c.rest.ensures, c.word_len.ensures) (sym (behind_words c.args.line.now))
