-- The blanks, and the word behind them.
use native.Mathlib.Omega.{arith}
use mathlib.Core.Path.{◌≡◌, ap}
use lib.ListN.{length, drop, length-drop}
use Rattle.line.specs.Answer.{lead}
use Rattle.line.proofs.WordLaws.{no_next, next, fits}
use Rattle.line.proofs.next_word.Goals as goal

pub returns-then-n-eq0 : goal.returns-then-n-eq0
returns-then-n-eq0 c = no_next c.args.s.now (rw (c.rest-start.ensures, c.lead.ensures)) c.word_len-n.ensures c.if-n-eq0.true

pub split_at-requires : goal.split_at-requires
split_at-requires c = fits c.args.s.now (rw (c.rest-start.ensures, c.lead.ensures)) c.word_len-n.ensures

pub returns : goal.returns
returns c = let start : c.rest-start.result.now ≡ drop (lead c.args.s.now) c.args.s.now = rw (c.rest-start.ensures, c.lead.ensures) in
    (rw (c.split_at.ensures.front, c.split_at.ensures.back) (next c.args.s.now start c.word_len-n.ensures c.if-n-eq0.false), omega (arith, c.split_at.ensures.back_len, c.if-n-eq0.false, ap length start, length-drop (lead c.args.s.now) c.args.s.now))
