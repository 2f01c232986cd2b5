-- A query's comma list, by its names: what its places say is said of the names.
use Prim.Native.Nat.{ℕ, ◌<◌}
use Prim.Native.Char.{code}
use native.Mathlib.Omega.{arith}
use mathlib.Core.Path.{◌≡◌, refl, ap, sym, ◌∙◌}
use mathlib.Core.Bool.{Bool, true, false, cond, not, ◌||◌}
use mathlib.Core.List.{List, [], ◌∷◌, ◌++◌, map, map-map}
use lib.Dec.{eqb, leb, ltb}
use lib.ListN.{length}
use borrow.Author.Tests.{le-leb, le-ltb, leb-false, eq-eqb, eqb-true}
use Rattle.output.specs.Text.{same}
use Rattle.output.proofs.TextLaws.{same_refl, same_true}
use Rattle.message.specs.Message.{Message}
use Rattle.machine.specs.declared.Sheet.{Sheet}
use Rattle.machine.specs.declared.State.{State}
use Rattle.machine.specs.declared.Request.{Request}
use Rattle.machine.specs.declared.Request.TheVariants.{SensorList, SensorSampling, SensorValue}
use Rattle.machine.specs.Places.{any, has, twice, Each}
use Rattle.machine.specs.Sheet.{last_client, place_of, not_on_sheet, sensor_of, name_of}
use Rattle.machine.specs.Messages.{sensor_inform, value_inform, counted_answer}
use Rattle.machine.specs.Requests.{Asks, hidden, split, before, listed, asked_places, answer, sends_only}
use Rattle.machine.specs.Declined.{Line, call_of, declined, action_declined, client_declined, line_declined, line_refusal, refusal, count_fits, arguments_declined, places_declined, sampling_declined}
use Rattle.machine.specs.Machine.{done, left, outcome, perform, line_work, step}
use Rattle.machine.specs.SeveralNames.{comma_list, unknown_name, named_twice, reply_alone, names_answered, name_answered, informed, sensor_on, value_on, Received, AnswersNames, DeclinesAlike, SeveralNames}
use Rattle.machine.proofs.TestLaws.{test_same, or_false, cond_false, eqb_sym}
use Rattle.machine.proofs.PlacesLaws.{each_any_false, each_weaker}
use Rattle.machine.proofs.SheetLaws.{name_of_place}
use Rattle.machine.proofs.RangeLaws.{range_out}
use Rattle.machine.proofs.StepLaws.{own_rows}

-- a test of what stands for the elements
any-map : {A B : Type 0} (f : B → Bool) (g : A → B) (xs : List A) → any f (map g xs) ≡ any (λ x. f (g x)) xs
unfolding any
any-map f g [] = refl
any-map f g (x ∷ xs) = ap (λ b. f (g x) || b) (any-map f g xs)

-- Names of the sheet are one where their places are.
module _ (sheet : Sheet) where
  abbrev Known : List ℕ → Type 0
  Known name = place_of sheet name < sheet.count

  one_place : (a b : List ℕ) → Known a → Known b → eqb (place_of sheet a) (place_of sheet b) ≡ same a b
  one_place a b ka kb = test_same (eqb (place_of sheet a) (place_of sheet b)) (same a b)
      (λ e. ap (same a) (one_name (eqb-true (place_of sheet a) (place_of sheet b) e)) ∙ same_refl a)
      (λ e. eq-eqb (place_of sheet a) (place_of sheet b) (ap (place_of sheet) (same_true a b e)))
    where
      one_name : place_of sheet a ≡ place_of sheet b → b ≡ a
      one_name e = sym (name_of_place sheet b kb) ∙ ap (λ j. name_of (sensor_of sheet j)) (sym e) ∙ name_of_place sheet a ka

  has_place : (a : List ℕ) (names : List (List ℕ)) → Known a → Each Known names → has (place_of sheet a) (map (place_of sheet) names) ≡ any (same a) names
  unfolding has any
  has_place a [] k h = refl
  has_place a (b ∷ names) k h = rw (one_place a b k h.0) (ap (λ t. same a b || t) (has_place a names k h.1))

  places_twice : (names : List (List ℕ)) → Each Known names → twice (map (place_of sheet) names) ≡ named_twice names
  unfolding twice
  places_twice [] h = refl
  places_twice (a ∷ names) h = rw (has_place a names h.0 h.1, places_twice names h.1)

  -- the rows 16 and 21, by the names
  places_names : (names : List (List ℕ)) (rest : ℕ) → places_declined sheet (map (place_of sheet) names) rest ≡ cond (any (unknown_name sheet) names) 16 (cond (named_twice names) 21 rest)
  places_names names rest = ap (λ b. cond b 16 (cond (twice (map (place_of sheet) names)) 21 rest)) (any-map (not_on_sheet sheet) (place_of sheet) names) ∙ go (any (unknown_name sheet) names) refl
    where
      known : any (unknown_name sheet) names ≡ false → Each Known names
      known e = each_weaker (λ name. unknown_name sheet name ≡ false) Known (λ name. leb-false sheet.count (place_of sheet name)) names (each_any_false (unknown_name sheet) names e)

      go : (b : Bool) → any (unknown_name sheet) names ≡ b → cond b 16 (cond (twice (map (place_of sheet) names)) 21 rest) ≡ cond b 16 (cond (named_twice names) 21 rest)
      go true e = refl
      go false e = rw (places_twice names (known e))

-- A text without a comma is one name; behind it a comma begins the next.

abbrev Plain : List ℕ → Type 0
Plain t = has (code ",") t ≡ false

plain_byte : (b : ℕ) (t : List ℕ) → Plain (b ∷ t) → (eqb b (code ",") ≡ false) × Plain t
unfolding has any
plain_byte b t h = let q = or_false (eqb (code ",") b) (any (eqb (code ",")) t) h in (eqb_sym b (code ",") ∙ q.0, q.1)

split_one : (name : List ℕ) → Plain name → split name ≡ name ∷ []
split_one [] h = refl
split_one (b ∷ name) h = let q = plain_byte b name h in rw q.0 (ap (before b) (split_one name q.1))

split_more : (name rest : List ℕ) → Plain name → split (name ++ (code "," ∷ rest)) ≡ name ∷ split rest
split_more [] rest h = refl
split_more (b ∷ name) rest h = let q = plain_byte b name h in rw q.0 (ap (before b) (split_more name rest q.1))

cut_names : (name : List ℕ) (names : List (List ℕ)) → Each Plain (name ∷ names) → split (comma_list name names) ≡ name ∷ names
cut_names name [] h = split_one name h.0
cut_names name (next ∷ names) h = split_more name (comma_list next names) h.0 ∙ ap (λ ns. name ∷ ns) (cut_names next names h.1)

-- A line that asks for the sensors of a list.
module _ (s : State) (c : ℕ) (line lent : List ℕ) (r : Request) (m : Message) (q : Received s c line lent r m) where
  row_is : declined s.sheet s (call_of (Line c line) lent) ≡ line_declined s.sheet (Asks r m)
  unfolding action_declined client_declined
  row_is = own_rows s (call_of (Line c line) lent) q.in_range_lem q.room q.running ∙ rw (le-ltb (last_client s.sheet.profile) c ((range_out s q.in_range_lem).last_in c q.client q.there), q.there, q.asks)

  -- by the number of the row that declines it
  pub by_row : (n : ℕ) → line_declined s.sheet (Asks r m) ≡ n → step s (call_of (Line c line) lent) ≡ outcome s.sheet s (Line c line) n
  by_row n e = ap (outcome s.sheet s (Line c line)) (row_is ∙ e)

  -- declined with the number of a row that answers
  pub alone : (n : ℕ) → (ltb n 12 || ltb 23 n) ≡ false → left s n (Line c line) ≡ reply_alone s c m n
  unfolding refusal line_refusal
  alone n h = rw (h, q.asks)

  module _ (names : List (List ℕ)) (rest : ℕ) {js : List ℕ} (row : line_declined s.sheet (Asks r m) ≡ places_declined s.sheet js rest) (are : js ≡ map (place_of s.sheet) names) where
    by_names : step s (call_of (Line c line) lent) ≡ outcome s.sheet s (Line c line) (cond (any (unknown_name s.sheet) names) 16 (cond (named_twice names) 21 rest))
    by_names = by_row _ (row ∙ ap (λ js. places_declined s.sheet js rest) are ∙ places_names s.sheet names rest)

    alike : DeclinesAlike s c line lent m names
    unfolding outcome
    alike = record { unknown = λ e. by_names ∙ rw e (alone 16 refl); named_twice_lem = λ e t. by_names ∙ rw (e, t) (alone 21 refl) }

  -- carried out
  pub all_informed : (informs : List Message) → answer s.sheet s c r m ≡ sends_only s (counted_answer c m informs) → done (perform s.sheet s (Line c line)) ≡ informed s c m informs
  unfolding perform line_work counted_answer
  all_informed informs work = rw (q.asks, work)

  all_told : (f : ℕ → Message) (names : List (List ℕ)) → answer s.sheet s c r m ≡ sends_only s (counted_answer c m (map f (map (place_of s.sheet) names)))
      → done (perform s.sheet s (Line c line)) ≡ informed s c m (map (λ name. f (place_of s.sheet name)) names)
  all_told f names work = all_informed (map f (map (place_of s.sheet) names)) work ∙ ap (informed s c m) (map-map f (place_of s.sheet) names)

  told : (f : ℕ → Message) (names : List (List ℕ)) → line_declined s.sheet (Asks r m) ≡ places_declined s.sheet (map (place_of s.sheet) names) 0
      → answer s.sheet s c r m ≡ sends_only s (counted_answer c m (map f (map (place_of s.sheet) names)))
      → step s (call_of (Line c line) lent) ≡ names_answered s c m (λ name. f (place_of s.sheet name)) names
  unfolding outcome
  told f names row work = by_names names 0 row refl ∙ go (any (unknown_name s.sheet) names) (named_twice names)
    where
      go : (a b : Bool) → outcome s.sheet s (Line c line) (cond a 16 (cond b 21 0))
          ≡ cond a (reply_alone s c m 16) (cond b (reply_alone s c m 21) (informed s c m (map (λ name. f (place_of s.sheet name)) names)))
      go true b = alone 16 refl
      go false true = alone 21 refl
      go false false = all_told f names work

-- The three requests.

list_told : AnswersNames SensorList sensor_on
unfolding hidden line_declined count_fits arguments_declined asked_places listed answer
list_told s c line lent m q list e = told s c line lent SensorList m q (λ j. sensor_inform m.id (sensor_of s.sheet j)) (split list) (rw e) (rw e)

value_told : AnswersNames SensorValue value_on
unfolding hidden line_declined count_fits arguments_declined asked_places listed answer
value_told s c line lent m q list e = told s c line lent SensorValue m q (value_inform m.id s s.sheet) (split list) (rw e) (rw e)

sampling_alike : (s : State) (c : ℕ) (line lent : List ℕ) (m : Message) → Received s c line lent SensorSampling m → (list : List ℕ) (more : List (List ℕ)) → m.args ≡ list ∷ more
    → DeclinesAlike s c line lent m (split list)
unfolding hidden line_declined count_fits arguments_declined sampling_declined listed
sampling_alike s c line lent m q list more e = alike s c line lent SensorSampling m q (split list) _ (cond_false (not (leb 1 (length m.args))) 15 (sampling_declined s.sheet m) (ap not some)) (rw e)
  where
    some : leb 1 (length m.args) ≡ true
    some = rw e (le-leb 1 (length (list ∷ more)) (omega arith))

-- one name, and a list of one
one_told : (s : State) (c : ℕ) (m : Message) (inform : List ℕ → Message) (name : List ℕ) → has (code ",") name ≡ false
    → names_answered s c m inform (split name) ≡ name_answered s c m inform name
unfolding any
one_told s c m inform name h = ap (names_answered s c m inform) (split_one name h) ∙ go (unknown_name s.sheet name)
  where
    go : (b : Bool) → cond (b || false) (reply_alone s c m 16) (informed s c m (inform name ∷ [])) ≡ cond b (reply_alone s c m 16) (informed s c m (inform name ∷ []))
    go true = refl
    go false = refl

pub several_names : SeveralNames
several_names = record {
  cut = cut_names;
  sensor_list = list_told;
  sensor_value = value_told;
  sensor_list_of_one = λ s c line lent m q name e h. list_told s c line lent m q name e ∙ one_told s c m (sensor_on s m) name h;
  sensor_value_of_one = λ s c line lent m q name e h. value_told s c line lent m q name e ∙ one_told s c m (value_on s m) name h;
  sensor_sampling = sampling_alike;
}
