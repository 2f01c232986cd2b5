-- The word of the argument stands for its text, which is copied where it fits.
use Prim.Native.Nat.{ℕ}
use mathlib.Core.Path.{ap, ◌∙◌}
use mathlib.Core.List.{List}
use lib.ListN.{length}
use Rattle.output.proofs.OutputLaws as O
use Rattle.line.specs.Line.{unescape}
use Rattle.line.specs.Argument.{argument}
use Rattle.line.proofs.CopyLaws as copy
use Rattle.line.proofs.argument.Goals as goal

pub returns-then-into-n : goal.returns-then-into-n
returns-then-into-n c = let all = copy.too_short (argument c.args.line.now c.args.k) c.args.into.now c.text_len-n.result (c.text_len-n.ensures ∙ ap (λ (l : List ℕ). length (unescape l)) c.argument_word-word.ensures) c.if-into-n.true in record {
  value = all.0;
  into_after = all.1;
}

pub returns : goal.returns
returns c = let all = copy.fits (argument c.args.line.now c.args.k) c.args.into.now c.text_len-n.result (c.text_len-n.ensures ∙ ap (λ (l : List ℕ). length (unescape l)) c.argument_word-word.ensures) _ _ c.if-into-n.false (O.said c.put_unescaped.ensures (ap unescape c.argument_word-word.ensures)) in record {
  value = all.0;
  into_after = all.1;
}
