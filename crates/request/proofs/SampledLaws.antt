-- A `sensor-sampling` whose arguments no row declines: the places that its names give, and what it comes to, by the parts that the code reads.
use Prim.Native.Nat.{ℕ, ◌-◌, ◌≤◌, ◌<◌}
use native.Mathlib.Omega.{arith}
use mathlib.Core.Path.{◌≡◌, ap, sym, subst, ◌∙◌}
use mathlib.Core.Bool.{true, false, cond}
use mathlib.Core.List.{List, map}
use lib.Dec.{eqb, ltb}
use lib.ListN.{length, take, drop, get_or, replicate, get_or-append}
use borrow.Author.Tests.{eq-eqb, ne_eqb}
use Rattle.message.specs.Message.{Message}
use Rattle.line.specs.declared.Header.{Header}
use Rattle.line.specs.Argument as lines
use Rattle.machine.specs.declared.State.{State}
use Rattle.machine.specs.declared.Answer.{Answer}
use Rattle.machine.specs.declared.Request.TheVariants.{SensorSampling}
use Rattle.machine.specs.Places.{any, twice, Each}
use Rattle.machine.specs.Sheet.{place_of, not_on_sheet}
use Rattle.machine.specs.Messages.{sampling_reply}
use Rattle.machine.specs.Requests.{split, listed, kind_asked, strategy_made, strategy_asked, sampled_sends, sampling, answer}
use Rattle.machine.specs.Declined.{setting_declined, sampling_declined, arguments_declined}
use Rattle.machine.proofs.TestLaws.{passed, cond_false}
use Rattle.machine.proofs.PlacesLaws.{each_weaker}
use Rattle.machine.proofs.RangeLaws.{range_out, sensors_of}
use Rattle.machine.proofs.SamplingLaws.{listed_some, listed_known}
use Rattle.names.specs.declared.Listed.{Listed}
use Rattle.names.specs.Scan.{listing, places_of, scanned, places_named}
use Rattle.names.proofs.ListingLaws.{listing_places}
use Rattle.names.proofs.SheetPlaces.{named_are, scanned_number, scanned_is, scanned_below}
use Rattle.std.specs.Prelude.{Result, Ok, IsOk, IfOk}
use Rattle.std.proofs.lemmas.Result.{IfOk-at_ok}
use Rattle.machine.specs.declared.Strategy.{Strategy}
use Rattle.machine.specs.declared.Refusal.{Refusal}
use Rattle.machine.specs.Refusals.{number_in}
use Rattle.request.proofs.RowLaws.{accepted}
use Rattle.request.specs.Reading.{message_of, IsRead, Ready}
use Rattle.request.specs.Effects.{request_effect, naming, query_effect, setting_effect, Gives}
use Rattle.request.proofs.ReadLaws.{name_is, id_is, count_is, argument_is}
use Rattle.request.proofs.PassLaws.{each_at}

-- the list of the places that the names of a line give, as the code holds it
pub record Scan (s : State) (line : List ℕ) (list : Listed) : Type 0 where
  pub are : places_of list ≡ listed s.sheet (message_of line)
  pub below : Each (λ j. j < 32) (places_of list)
  pub some : 0 < length (places_of list)
  pub first_is : get_or list.places 0 0 ≡ get_or (listed s.sheet (message_of line)) 0 0
  pub first_below_lem : get_or list.places 0 0 < 32

module _ {s : State} {c : ℕ} {line : List ℕ} {head : Header} (r : Ready s c SensorSampling line head) where
  abbrev own : Message
  own = message_of line

  abbrev js : List ℕ
  js = listed s.sheet own

  read : IsRead line head
  read = r.heard.read

  few : s.sheet.count ≤ 32
  few = (sensors_of s (range_out s r.heard.in_range_lem)).count_most

  fits : sampling_declined s.sheet own ≡ 0
  unfolding arguments_declined
  fits = r.fits

  number_none : number_in (scanned s.sheet js) ≡ 0
  number_none = let known = listed_known s.sheet own fits in scanned_number s.sheet few js ∙ rw (known.0, known.1)

  -- the list that was scanned from the first argument
  module _ {text : List ℕ} {found : Result Listed Refusal} (e : text ≡ lines.argument line 0) (l : found ≡ scanned s.sheet (places_named s.sheet text)) where
    named : places_named s.sheet text ≡ js
    unfolding listed
    named = named_are s.sheet few text ∙ ap (λ t. map (place_of s.sheet) (split t)) (e ∙ argument_is line head read 0)

    found_is : found ≡ scanned s.sheet js
    found_is = l ∙ ap (scanned s.sheet) named

    pub scan_ok : IsOk found
    scan_ok = accepted found (ap number_in found_is ∙ number_none)

    module _ {list : Listed} (q : found ≡ Ok list) where
      list_is : list ≡ listing js
      list_is = scanned_is s.sheet few js (sym found_is ∙ q)

      places_are : places_of list ≡ js
      places_are = ap places_of list_is ∙ listing_places js

      places_below : Each (λ j. j < 32) js
      places_below = each_weaker (λ j. j < s.sheet.count) (λ j. j < 32) (λ j h. omega (arith, few)) js (scanned_below s.sheet few js (sym found_is ∙ q))

      first : get_or list.places 0 0 ≡ get_or js 0 0
      unfolding listing
      first = ap (λ (x : Listed). get_or x.places 0 0) list_is ∙ get_or-append js (replicate (32 - length js) 0) 0 0 (listed_some s.sheet own)

      pub scan_is : Scan s line list
      scan_is = record {
        are = places_are;
        below = rw places_are places_below;
        some = rw places_are (listed_some s.sheet own);
        first_is = first;
        first_below_lem = rw first (each_at (λ j. j < 32) js 0 places_below (listed_some s.sheet own));
      }

  -- a strategy behind the names
  module _ (k : head.count ≡ 1 → ⊥) where
    behind : eqb (length own.args) 1 ≡ false
    behind = ne_eqb (length own.args) 1 (λ z. k (count_is line head read ∙ z))

    setting_fits : setting_declined s.sheet js (kind_asked own) (length own.args) (drop 2 own.args) ≡ 0
    unfolding sampling_declined
    setting_fits =
        let x = passed (any (not_on_sheet s.sheet) js) 16 _ (omega arith) fits in
        let y = passed (twice js) 21 _ (omega arith) x.1 in
        sym (cond_false (eqb (length own.args) 1) (cond (ltb 1 (length js)) 15 0) _ behind) ∙ y.1

    module _ {places : List ℕ} (p : places ≡ js) where
      pub setting_ok : (asked : Result Strategy Refusal) → number_in asked ≡ setting_declined s.sheet places (kind_asked own) (length own.args) (drop 2 own.args) → IsOk asked
      setting_ok asked q = accepted asked (q ∙ (ap (λ l. setting_declined s.sheet l (kind_asked own) (length own.args) (drop 2 own.args)) p ∙ setting_fits))

      setting_is : {asked : Result Strategy Refusal} {st : Strategy} → IfOk asked (λ st. st ≡ strategy_made s.sheet places (kind_asked own) (drop 2 own.args)) → asked ≡ Ok st → st ≡ strategy_asked s.sheet own
      unfolding strategy_asked
      setting_is {st = st} h e = IfOk-at_ok (λ st. st ≡ strategy_made s.sheet places (kind_asked own) (drop 2 own.args)) e h ∙ ap (λ l. strategy_made s.sheet l (kind_asked own) (drop 2 own.args)) p

  -- what it comes to
  module _ {name names : List ℕ} {id : ℕ} {lent out : List ℕ} {a : Answer} (n : name ≡ take head.name (drop 1 line)) (i : id ≡ head.id) (t : names ≡ lines.argument line 0) where
    pub queried : {place : ℕ} → head.count ≡ 1 → place ≡ get_or js 0 0 → Gives (query_effect s c (naming name id names) place) lent a out → Gives (request_effect s c SensorSampling line) lent a out
    unfolding answer sampling sampling_reply
    queried {place} k p h = subst (λ x. Gives x lent a out) is h
      where
        alone : eqb (length own.args) 1 ≡ true
        alone = eq-eqb (length own.args) 1 (sym (count_is line head read) ∙ k)

        is : query_effect s c (naming name id names) place ≡ request_effect s c SensorSampling line
        is = rw (alone, p, n, name_is line head read, i, id_is line head read, t, argument_is line head read 0)

    pub set_to : {places : List ℕ} {asked : Result Strategy Refusal} {st : Strategy} (k : head.count ≡ 1 → ⊥) (p : places ≡ js)
        → IfOk asked (λ st. st ≡ strategy_made s.sheet places (kind_asked own) (drop 2 own.args)) → asked ≡ Ok st
        → Gives (setting_effect s c (naming name id names) places st) lent a out → Gives (request_effect s c SensorSampling line) lent a out
    unfolding answer sampling sampled_sends sampling_reply
    set_to {places} {asked} {st} k p q e h = subst (λ x. Gives x lent a out) is h
      where
        is : setting_effect s c (naming name id names) places st ≡ request_effect s c SensorSampling line
        is = rw (behind k, setting_is k p q e, p, n, name_is line head read, i, id_is line head read, t, argument_is line head read 0)
