-- The text of a word, by what is written of it so far.
use mathlib.Core.Path.{◌≡◌, refl, sym, ap, ◌∙◌}
use mathlib.Core.List.{List, [], ◌++◌, append-nil, append_assoc}
use Prim.Native.Nat.{ℕ}
use Rattle.output.specs.Output.{Output, Wrote}
use Rattle.output.proofs.OutputLaws as O
use Rattle.line.specs.Line.{unescape}

-- a part of the text of the word w is written, q is p with it, and the rest of the text is that of `left`
pub record Put (p : Output) (w : List ℕ) (q : Output) (left : List ℕ) : Type 0 where
  pub text : List ℕ
  pub wrote : Wrote p text q
  pub rest : text ++ unescape left ≡ unescape w

pub put_none : (p : Output) (w : List ℕ) → Put p w p w
put_none p w = record { text = []; wrote = O.blank; rest = refl }

module _ {p q : Output} {w left : List ℕ} (f : Put p w q left) where
  -- what comes next in the text is written too
  pub put_more : {r : Output} {more behind : List ℕ} → unescape left ≡ more ++ unescape behind → Wrote q more r → Put p w r behind
  put_more {r} {more} {behind} e o =
      record {
        text = f.text ++ more;
        wrote = O.then f.wrote o;
        rest = append_assoc f.text more (unescape behind) ∙ ap (λ (l : List ℕ). f.text ++ l) (sym e) ∙ f.rest;
      }

  pub put_all : unescape left ≡ [] → Wrote p (unescape w) q
  put_all e = O.said f.wrote (sym (append-nil f.text) ∙ ap (λ (l : List ℕ). f.text ++ l) (sym e) ∙ f.rest)
