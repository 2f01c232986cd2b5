-- The kinds of strategies, at the places of their words.
use Prim.Native.Nat.{ℕ, ◌<◌, ◌≤◌}
use native.Mathlib.Omega.{arith}
use mathlib.Core.Path.{◌≡◌, refl, ap, ◌∙◌}
use mathlib.Core.List.{List, [], ◌∷◌}
use lib.Dec.{eqb}
use borrow.Author.Tests.{eqb-true}
use Rattle.std.specs.Prelude.{Option, Some, None, slice_get}
use Rattle.output.specs.Text.{text}
use Rattle.texts.specs.Table.{word_of, place_of, below}
use Rattle.texts.proofs.TableLaws.{place_bound, below_some, below_none}
use Rattle.machine.specs.Places.{all_below}
use Rattle.machine.specs.Messages.{strategy_text}
use Rattle.machine.specs.Requests.{strategy_named}
use Rattle.machine.proofs.PlacesLaws.{below_at}
use Rattle.machine.proofs.WordTables.{place_first}
use Rattle.strategies.specs.declared.Kind.{Kind}
use Rattle.strategies.specs.declared.Kind.TheVariants.{None as NoKind, Auto, Period, Event, Differential, EventRate, DifferentialRate}
use Rattle.strategies.specs.Settings.{kind_number, word_place}

abbrev pub table : List ℕ
table = text "none|auto|period|event|differential|event-rate|differential-rate"

-- the kinds in the order of their words
abbrev pub kinds : List Kind
kinds = NoKind ∷ Auto ∷ Period ∷ Event ∷ Differential ∷ EventRate ∷ DifferentialRate ∷ []

-- a kind has a place among the words
pub kind_known : (k : Kind) → kind_number k < 7
kind_known NoKind = omega arith
kind_known Auto = omega arith
kind_known Period = omega arith
kind_known Event = omega arith
kind_known Differential = omega arith
kind_known EventRate = omega arith
kind_known DifferentialRate = omega arith

kind_at : (k : ℕ) → k < 7 → word_place (slice_get kinds k) ≡ k
unfolding all_below
kind_at k h = eqb-true _ k (below_at (λ j. eqb (word_place (slice_get kinds j)) j) 7 k refl h)

-- the word's place in the table is that of the strategy
place_is : (word : List ℕ) → place_of table word ≡ strategy_named word
unfolding strategy_named strategy_text word_of
place_is word = place_first table word

-- place: where the word was found
module _ (word : List ℕ) {place : Option ℕ} (e : place ≡ below 7 (place_of table word)) where
  pub named_none : place ≡ None → 7 ≡ strategy_named word
  named_none h =
      let most : place_of table word ≤ 7 = place_bound table word refl in
      let least = below_none 7 (place_of table word) e h in
      let same : 7 ≡ place_of table word = omega (arith, most, least) in
      same ∙ place_is word

  pub named_some : (k : ℕ) → place ≡ Some k → {found : Option Kind} → found ≡ slice_get kinds k → word_place found ≡ strategy_named word
  named_some k h f =
      let at = below_some 7 (place_of table word) e k h in
      ap word_place f ∙ (kind_at k (omega (arith, at.0, at.1)) ∙ (at.0 ∙ place_is word))

-- the word at a place is the strategy's
pub word_is : {w : List ℕ} {p k : ℕ} → w ≡ word_of table p → p ≡ k → w ≡ strategy_text k
unfolding strategy_text word_of
word_is e f = e ∙ ap (word_of table) f
