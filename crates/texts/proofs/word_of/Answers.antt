-- The part at the place; past them, the last of them.
use Rattle.std.proofs.Common.{rules, tests}
use Rattle.std.proofs.lemmas.Iterator.{items_from_drains}
use Rattle.std.proofs.lemmas.Iterator.Consumers.{nth_from_yields_List}
use Rattle.std.proofs.lemmas.Iterator.Splits.{YieldsList-from_slice_split}
use Rattle.std.specs.Option.{option_map}
use Rattle.std.specs.List.{slice_get}
use mathlib.Core.List.{List}
use mathlib.Core.Path.{refl, sym, ap, ◌∙◌}
use Prim.Native.Nat.{ℕ}
use denote.Ref.{Bor}
use Rattle.texts.specs.Table.{words_of, final, word_of}
use Rattle.texts.proofs.TableLaws as T
use Rattle.texts.proofs.word_of.Goals as goal

-- the bytes of a text that is lent
abbrev bytes : Bor (List ℕ) → List ℕ
bytes w = w.now

pub returns-in-Some : goal.returns-in-Some
unfolding word_of
returns-in-Some c = let table = c.args.table.now in
    let found = nth_from_yields_List c.nth.result _ c.args.k c.nth.ensures.ran (YieldsList-from_slice_split _ T.is_bar table c.split.ensures.rest c.split.ensures.done c.split.ensures.closure (λ x b q k. search (rules, tests))) in
    T.pick_some (words_of table) c.args.k c.in-Some.word.now (ap (option_map bytes) (sym c.in-Some.is) ∙ found ∙ ap (λ (ws : List (List ℕ)). slice_get ws c.args.k) (T.split_words table))

pub returns : goal.returns
unfolding word_of
returns c = let table = c.args.table.now in
    let found = nth_from_yields_List c.nth.result _ c.args.k c.nth.ensures.ran (YieldsList-from_slice_split _ T.is_bar table c.split.ensures.rest c.split.ensures.done c.split.ensures.closure (λ x b q k. search (rules, tests))) in
    let none = T.pick_none (words_of table) c.args.k (ap (option_map bytes) (sym c.in_default.is) ∙ found ∙ ap (λ (ws : List (List ℕ)). slice_get ws c.args.k) (T.split_words table)) in
    let ran = c.last.ensures.ran in
    let all = items_from_drains ran.0 (ran.1.1.0, ran.1.1.1, λ _. (ran.1.0, ran.1.1.2)) (YieldsList-from_slice_split _ T.is_bar table c.split-2.ensures.rest c.split-2.ensures.done c.split-2.ensures.closure (λ x b q k. search (rules, tests))) in
    T.last_final bytes _ c.last.result c.unwrap_or.result c.unwrap_or.ensures ran.0 ran.2 refl ∙ ap final (all ∙ T.split_words table) ∙ none
