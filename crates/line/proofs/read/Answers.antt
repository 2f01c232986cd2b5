-- A line within its size, whose arguments are valid, is what its first word says.
use borrow.Author.Rules.{rules}
use Prim.Native.Nat.{ℕ}
use mathlib.Core.Path.{◌≡◌, sym, ap, ◌∙◌}
use mathlib.Core.List.{List}
use Rattle.line.specs.Line.{word}
use Rattle.line.specs.Answer.{head_read}
use Rattle.line.proofs.WordLaws.{first_word}
use Rattle.line.proofs.HeadLaws as H
use Rattle.line.proofs.read.Goals as goal

pub returns-then-line-gt-LONGEST : goal.returns-then-line-gt-LONGEST
returns-then-line-gt-LONGEST c = search (H.too_long, rules)

pub returns-in_err-count : goal.returns-in_err-count
returns-in_err-count c = c.from_residual.ensures ∙ H.refused _ c.if-line-gt-LONGEST.false (sym c.arguments.ensures ∙ c.in_err-count.was)

pub returns : goal.returns
returns c = let first : c.prefix.result.now ≡ word c.args.line.now = c.prefix.ensures ∙ first_word c.args.line.now c.word_len.result c.word_len.ensures in
    c.head.ensures ∙ ap (λ (l : List ℕ). head_read l c.in_ok-count.count) first ∙ H.headed c.args.line.now c.if-line-gt-LONGEST.false c.in_ok-count.count (sym c.arguments.ensures ∙ c.in_ok-count.was)
