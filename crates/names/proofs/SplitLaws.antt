-- A comma list: its parts are those of the library's split.
use Prim.Native.Nat.{ℕ}
use mathlib.Core.Path.{◌≡◌, refl, ap, ◌∙◌}
use mathlib.Core.Bool.{Bool, true, false, cond}
use mathlib.Core.List.{List, [], ◌∷◌}
use lib.Dec.{eqb}
use Rattle.std.specs.List.{slice_split, onto_first}
use Rattle.machine.specs.Requests.{split, before}

onto_before : (b : ℕ) (parts : List (List ℕ)) → onto_first b parts ≡ before b parts
onto_before b [] = refl
onto_before b (part ∷ parts) = refl

pub split_parts : (s : List ℕ) → slice_split (λ b. eqb b 44) s ≡ split s
split_parts [] = refl
split_parts (b ∷ s) = go (eqb b 44) (split_parts s)
  where
    go : (t : Bool) → slice_split (λ b. eqb b 44) s ≡ split s → cond t ([] ∷ slice_split (λ b. eqb b 44) s) (onto_first b (slice_split (λ b. eqb b 44) s)) ≡ cond t ([] ∷ split s) (before b (split s))
    go true e = ap (λ l. [] ∷ l) e
    go false e = onto_before b (slice_split (λ b. eqb b 44) s) ∙ ap (before b) e
