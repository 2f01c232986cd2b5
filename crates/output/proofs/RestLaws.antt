-- A text written piece by piece: writing the rest where it stands now gives what the whole gave where it began.
use Prim.Native.Nat.{ℕ}
use mathlib.Core.Path.{◌≡◌, refl, ap, sym, ◌∙◌}
use mathlib.Core.List.{List, [], ◌++◌}
use Rattle.output.specs.Output.{Output, put_all, Wrote}
use Rattle.output.proofs.OutputLaws.{put_all-append}

pub record Rest (o : Output) (whole : List ℕ) (p : Output) (rest : List ℕ) : Type 0 where
  pub is : put_all p rest ≡ put_all o whole

pub none_yet : (o : Output) (whole : List ℕ) → Rest o whole o whole
none_yet o whole = record { is = refl }

module _ {o p : Output} {whole rest₀ : List ℕ} (f : Rest o whole p rest₀) where
  -- the rest begins with what is written
  pub one_more : {q : Output} {bs : List ℕ} (rest : List ℕ) → Wrote p bs q → rest₀ ≡ bs ++ rest → Rest o whole q rest
  one_more {q} {bs} rest w e =
      record {
        is = ap (λ (x : Output). put_all x rest) w.is ∙ sym (put_all-append bs rest p) ∙ ap (put_all p) (sym e) ∙ f.is;
      }

  pub all_written : rest₀ ≡ [] → Wrote o whole p
  all_written e = record { is = ap (put_all p) (sym e) ∙ f.is }
