-- The first of the parts that is the word.
use Rattle.std.proofs.Common.{rules, tests}
use Rattle.std.proofs.lemmas.Iterator.Search.{position_from_yields_List}
use Rattle.std.proofs.lemmas.Iterator.Splits.{YieldsList-from_slice_split}
use Rattle.std.specs.List.{prefix_len}
use Rattle.std.specs.Str.{bytes_eq}
use mathlib.Core.Bool.{not}
use mathlib.Core.List.{List}
use mathlib.Core.Path.{ap, ◌∙◌}
use Prim.Native.Nat.{ℕ}
use lib.ListN.{length}
use Rattle.texts.specs.Table.{words_of, below, place_of}
use Rattle.texts.proofs.TableLaws.{is_bar, split_words, place_passed}
use Rattle.texts.proofs.place_of.Goals as goal

pub returns : goal.returns
unfolding place_of
returns c = let table = c.args.table.now in
    let word = c.args.word.now in
    position_from_yields_List (λ w. bytes_eq w word) _ _ c.position.result c.position.ensures.ran (YieldsList-from_slice_split _ is_bar table c.split.ensures.rest c.split.ensures.done c.split.ensures.closure (λ x b q k. search (rules, tests))) (λ x b q k. search (rules, tests))
    ∙ ap (λ (ws : List (List ℕ)). below (length ws) (prefix_len (λ w. not (bytes_eq w word)) ws)) (split_words table)
    ∙ ap (below (length (words_of table))) (place_passed (words_of table) word)
