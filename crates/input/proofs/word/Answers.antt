-- The part at the place k, or none.
use Rattle.std.proofs.Common.{rules, tests}
use Rattle.std.proofs.lemmas.Iterator.Consumers.{nth_from_yields_List}
use Rattle.std.proofs.lemmas.Iterator.Splits.{YieldsList-from_slice_split}
use Rattle.std.proofs.lemmas.Option.{unwrap_or-slice_get}
use Rattle.std.specs.List.{slice_split}
use mathlib.Core.List.{List, []}
use mathlib.Core.Path.{◌∙◌}
use Prim.Native.Nat.{ℕ}
use denote.Ref.{Bor}
use Rattle.input.proofs.SpaceLaws as space
use Rattle.input.proofs.word.Goals as goal

-- the bytes of a text that is lent
abbrev bytes : Bor (List ℕ) → List ℕ
bytes w = w.now

pub returns : goal.returns
returns c = let line = c.args.line.now in
    let found = nth_from_yields_List c.nth.result _ c.args.k c.nth.ensures.ran (YieldsList-from_slice_split _ space.is_space line c.split.ensures.rest c.split.ensures.done c.split.ensures.closure (λ x b q k. search (rules, tests))) in
    space.found_or bytes c.nth.result _ _ c.unwrap_or.ensures found ∙ unwrap_or-slice_get (slice_split space.is_space line) c.args.k [] ∙ space.split_word c.args.k line
