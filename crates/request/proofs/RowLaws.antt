-- The arguments of a line that was read, and the rows that decline them.
use Rattle.std.specs.Prelude.{Some, None, Option, Result, Ok, Err, IsOk, IfOk}
use Rattle.std.specs.Option.{ok_or}
use Prim.Native.Nat.{ℕ, zero, suc, ◌≤◌}
use Prim.Native.Char.{code}
use native.Mathlib.Omega.{arith}
use mathlib.Core.Path.{◌≡◌, refl, ap, sym, ◌∙◌}
use mathlib.Core.Bool.{Bool, true, false, cond, not}
use mathlib.Core.List.{List, [], ◌∷◌, ◌++◌, map}
use lib.Dec.{eqb, leb, ltb}
use lib.ListN.{length, take, drop, get_or, length-append}
use lib.Seq.{take-append_seam}
use borrow.Author.Tests.{le-leb, lt-leb, ltb-true, ltb-false, eq-eqb, ne_eqb}
use Rattle.output.proofs.RunLaws.{run_le}
use Rattle.texts.specs.Table.{below}
use Rattle.message.specs.Message.{Message}
use Rattle.line.specs.declared.Header.{Header}
use Rattle.line.specs.declared.Meaning.{Meaning}
use Rattle.line.specs.declared.Meaning.TheVariants.{Byte, Nothing, Unknown}
use Rattle.line.specs.Line.{blank, word_byte, word, words, behind, meant, escape_of, unescape, unescape_next}
use Rattle.line.specs.Argument as lines
use Rattle.machine.specs.declared.Sheet.{Sheet}
use Rattle.machine.specs.declared.Request.{Request}
use Rattle.machine.specs.declared.Request.TheVariants.{LogLevel}
use Rattle.machine.specs.Places.{any, twice, Each}
use Rattle.machine.specs.Sheet.{place_of, not_on_sheet}
use Rattle.machine.specs.State.{blank_sheet}
use Rattle.machine.specs.Requests.{argument, all_places, asked_places, request_named, found, found_number, level_of, split, listed, strategy_named, kind_asked, parameters_of, strategy_made}
use Rattle.machine.specs.Declined.{count_fits, places_declined, help_declined, setting_declined, sampling_declined, arguments_declined, request_declined}
use Rattle.machine.proofs.TestLaws.{cond_either, cond_true, cond_false}
use Rattle.declining.proofs.RowsLaws.{Row, row, row_declines, rows_pass, rows_rest}
use Rattle.names.specs.declared.Listed.{Listed}
use Rattle.names.specs.Scan.{places_of, scanned, places_named}
use Rattle.names.proofs.SheetPlaces.{named_are, scanned_number, scanned_places, scanned_count}
use Rattle.machine.specs.declared.Refusal.{Refusal}
use Rattle.machine.specs.declared.Refusal.TheVariants.{UnknownLevel}
use Rattle.machine.specs.Refusals.{refusal_number, number_in}
use Rattle.machine.proofs.RefusalLaws.{declines}
use Rattle.request.specs.Reading.{message_of, IsRead}
use Rattle.request.proofs.ReadLaws.{count_is, argument_is}

-- The text of an argument is no longer than its line.

meant_short : (m : Meaning) → length (meant m) ≤ 1
meant_short (Byte b) = omega arith
meant_short Nothing = omega arith
meant_short Unknown = omega arith

text_short : (w : List ℕ) → (length (unescape w) ≤ length w) × (length (unescape_next w) ≤ length w)
text_short [] = (omega arith, omega arith)
text_short (b ∷ s) = (
  cond_either (λ (l : List ℕ). length l ≤ suc (length s)) (eqb b (code "\\")) (unescape_next s) (b ∷ unescape s) (omega (arith, (text_short s).1)) (omega (arith, (text_short s).0)),
  omega (arith, length-append (meant (escape_of b)) (unescape s), meant_short (escape_of b), (text_short s).0),
)

-- words of at most n bytes
abbrev Within : ℕ → List (List ℕ) → Type 0
Within n ws = (k : ℕ) → length (get_or ws k []) ≤ n

within_more : (n : ℕ) (ws : List (List ℕ)) → Within n ws → Within (suc n) ws
within_more n ws h k = omega (arith, h k)

within_first : (n : ℕ) (w : List ℕ) (ws : List (List ℕ)) → length w ≤ n → Within n ws → Within n (w ∷ ws)
within_first n w ws l h zero = l
within_first n w ws l h (suc k) = h k

words_within : (s : List ℕ) → Within (length s) (words s) × Within (length s) (behind s)
words_within [] = (λ k. omega arith, λ k. omega arith)
words_within (b ∷ s) =
    let m = within_more (length s) (words s) (words_within s).0 in
    let t = within_more (length s) (behind s) (words_within s).1 in
    (cond_either (Within (suc (length s))) (blank b) (words s) ((b ∷ word s) ∷ behind s) m (within_first (suc (length s)) (b ∷ word s) (behind s) (omega (arith, run_le word_byte s)) t), cond_either (Within (suc (length s))) (blank b) (words s) (behind s) m t)

argument_short : (line : List ℕ) (k : ℕ) → length (lines.argument line k) ≤ length line
argument_short line k = omega (arith, (text_short (get_or (behind line) k [])).0, (words_within line).1 k)

-- the length of a text that was copied
abbrev copied_length : Option ℕ → ℕ
copied_length (Some n) = n
copied_length None = 2049

-- A buffer as long as a line may be has room for it.
module _ (line : List ℕ) (k : ℕ) (into : List ℕ) (h : (length line ≤ 2048) × (length into ≡ 2048)) where
  abbrev own : List ℕ
  own = lines.argument line k

  room : leb (length own) (length into) ≡ true
  room = le-leb (length own) (length into) (omega (arith, argument_short line k, h.0, h.1))

  module _ {r : Option ℕ} {out : List ℕ} (e : (r ≡ lines.copied own into) × (out ≡ lines.copied_into own into)) where
    whole : copied_length r ≡ length own
    unfolding lines.copied
    whole = ap copied_length e.0 ∙ rw room

    start : out ≡ own ++ drop (length own) into
    unfolding lines.copied_into
    start = e.1 ∙ rw room

    pub copied_never : {A : Type 0} → r ≡ None → A
    copied_never s = absurd (omega (arith, argument_short line k, h.0, whole, ap copied_length s))

    pub copied_argument : {n : ℕ} → r ≡ Some n → (take n out ≡ own) × (n ≤ 2048)
    copied_argument {n} w =
        let q : n ≡ length own = sym (ap copied_length w) ∙ whole in
        (rw (q, start) (take-append_seam own (drop (length own) into)), omega (arith, argument_short line k, h.0))

-- The rows.

-- what comes to 0 is not declined
pub accepted : {A : Type 0} (v : Result A Refusal) → number_in v ≡ 0 → IsOk v
accepted (Ok x) e = refl
accepted (Err r) e = absurd (declines r e)

-- nor is what a row does not decline
pub not_declined : {A : Type 0} (v : Result A Refusal) → ((r : Refusal) → v ≡ Err r → ⊥) → number_in v ≡ 0
not_declined (Ok x) h = refl
not_declined (Err r) h = absurd (h r refl)

-- the three texts behind the strategy's word
setting_three : (sheet : Sheet) (js : List ℕ) (k n : ℕ) (ts : List (List ℕ)) → setting_declined sheet js k n (get_or ts 2 [] ∷ get_or ts 3 [] ∷ get_or ts 4 [] ∷ []) ≡ setting_declined sheet js k n (drop 2 ts)
unfolding setting_declined strategy_made parameters_of
setting_three sheet js k n [] = refl
setting_three sheet js k n (t ∷ []) = refl
setting_three sheet js k n (t ∷ u ∷ ts) = refl

strategy_three : (sheet : Sheet) (js : List ℕ) (k : ℕ) (ts : List (List ℕ)) → strategy_made sheet js k (get_or ts 2 [] ∷ get_or ts 3 [] ∷ get_or ts 4 [] ∷ []) ≡ strategy_made sheet js k (drop 2 ts)
unfolding strategy_made parameters_of
strategy_three sheet js k [] = refl
strategy_three sheet js k (t ∷ []) = refl
strategy_three sheet js k (t ∷ u ∷ ts) = refl

-- the level n of a word, or row 22 where that is no level
level_row : (n : ℕ) → (number_in (ok_or (below 8 n) UnknownLevel) ≡ cond (leb 8 n) 22 0) × IfOk (ok_or (below 8 n) UnknownLevel) (λ l. l ≡ n)
level_row n = go (ltb n 8) refl
  where
    go : (b : Bool) → ltb n 8 ≡ b → (number_in (ok_or (cond b (Some n) None) UnknownLevel) ≡ cond (leb 8 n) 22 0) × IfOk (ok_or (cond b (Some n) None) UnknownLevel) (λ l. l ≡ n)
    go true e = (rw (lt-leb 8 n (ltb-true n 8 e)), refl)
    go false e = (rw (le-leb 8 n (ltb-false n 8 e)), tt)

-- the first two rows of `sensor-sampling`, before the others
abbrev list_rows : Sheet → List ℕ → List Row
list_rows sheet js = row (any (not_on_sheet sheet) js) 16 ∷ row (twice js) 21 ∷ []

module _ (line : List ℕ) (head : Header) (h : IsRead line head) where
  abbrev m : Message
  m = message_of line

  none_given : head.count ≡ 0 → eqb (length m.args) 0 ≡ true
  none_given e = eq-eqb (length m.args) 0 (sym (count_is line head h) ∙ e)

  some_given : (head.count ≡ 0 → ⊥) → eqb (length m.args) 0 ≡ false
  some_given ne = ne_eqb (length m.args) 0 (λ e. ne (count_is line head h ∙ e))

  pub help_all : (profile : ℕ) → head.count ≡ 0 → 0 ≡ cond (eqb (length m.args) 0) 0 (help_declined profile (request_named (argument m 0)))
  help_all profile e = rw (none_given e)

  pub level_fits : head.count ≡ 0 → 0 ≡ arguments_declined blank_sheet LogLevel m
  unfolding arguments_declined
  level_fits e = rw (none_given e)

  pub level_kept : (level : ℕ) → head.count ≡ 0 → level ≡ cond (eqb (length m.args) 0) level (level_of (argument m 0))
  level_kept level e = rw (none_given e)

  -- the sensors that are told of: all where no name is given, else those of the list
  module _ (sheet : Sheet) where
    pub all_asked : head.count ≡ 0 → all_places sheet ≡ asked_places sheet m
    unfolding asked_places
    all_asked e = rw (none_given e)

    pub list_asked : (head.count ≡ 0 → ⊥) → listed sheet m ≡ asked_places sheet m
    unfolding asked_places
    list_asked ne = rw (some_given ne)

  -- the text of the first argument
  module _ {t : List ℕ} (q : t ≡ lines.argument line 0) where
    given : t ≡ argument m 0
    given = q ∙ argument_is line head h 0

    module _ (ne : head.count ≡ 0 → ⊥) where
      pub help_named : (profile : ℕ) {f g : Option Request} → f ≡ found profile (request_named t) → f ≡ g
          → found_number 23 g ≡ cond (eqb (length m.args) 0) 0 (help_declined profile (request_named (argument m 0)))
      help_named profile e u = rw (some_given ne, ← given) (ap (found_number 23) (sym u ∙ e))

      -- its level
      module _ {o : Option ℕ} (e : o ≡ below 8 (level_of t)) {r : Result ℕ Refusal} (f : r ≡ ok_or o UnknownLevel) where
        pub level_declined : number_in r ≡ arguments_declined blank_sheet LogLevel m
        unfolding arguments_declined
        level_declined = rw (some_given ne, ← given, f, e) (level_row (level_of t)).0

        pub level_given : (level : ℕ) → IfOk r (λ l. l ≡ cond (eqb (length m.args) 0) level (level_of (argument m 0)))
        level_given level = rw (some_given ne, ← given, f, e) (level_row (level_of t)).1

    module _ (sheet : Sheet) (few : sheet.count ≤ 32) where
      pub listed_asked : places_named sheet t ≡ listed sheet m
      unfolding listed
      listed_asked = named_are sheet few t ∙ ap (λ (l : List ℕ). map (place_of sheet) (split l)) given

  -- the texts of the next four
  module _ (sheet : Sheet) (js : List ℕ) {w a b c : List ℕ} {k : ℕ} (ew : w ≡ lines.argument line 1) (ea : a ≡ lines.argument line 2) (eb : b ≡ lines.argument line 3) (ec : c ≡ lines.argument line 4)
      (ek : k ≡ strategy_named w) where
    pub setting_asked : setting_declined sheet js k head.count (a ∷ b ∷ c ∷ []) ≡ setting_declined sheet js (kind_asked m) (length m.args) (drop 2 m.args)
    setting_asked =
        rw (ek, ew ∙ argument_is line head h 1, ea ∙ argument_is line head h 2, eb ∙ argument_is line head h 3, ec ∙ argument_is line head h 4, count_is line head h)
        (setting_three sheet js (kind_asked m) (length m.args) m.args)

    pub strategy_asked : strategy_made sheet js k (a ∷ b ∷ c ∷ []) ≡ strategy_made sheet js (kind_asked m) (drop 2 m.args)
    strategy_asked =
        rw (ek, ew ∙ argument_is line head h 1, ea ∙ argument_is line head h 2, eb ∙ argument_is line head h 3, ec ∙ argument_is line head h 4)
        (strategy_three sheet js (kind_asked m) m.args)

  -- the places of the comma list, its first argument
  module _ (sheet : Sheet) (few : sheet.count ≤ 32) {found : Result Listed Refusal} (e : found ≡ scanned sheet (listed sheet m)) where
    number_is : number_in found ≡ places_declined sheet (listed sheet m) 0
    number_is = ap number_in e ∙ scanned_number sheet few (listed sheet m)

    pub sampling_first : {r : Refusal} → found ≡ Err r → refusal_number r ≡ sampling_declined sheet m
    unfolding sampling_declined
    sampling_first {r} q = row_declines (list_rows sheet (listed sheet m)) _ (ap number_in (sym q) ∙ number_is) (declines r)

    module _ {list : Listed} (z : found ≡ Ok list) where
      list_passes : Each (λ (r : Row). r.declines ≡ false) (list_rows sheet (listed sheet m))
      list_passes = rows_pass (list_rows sheet (listed sheet m)) (omega arith, (omega arith, tt)) (sym number_is ∙ ap number_in z)

      -- a list without a strategy
      pub sampling_alone : {r : ℕ} → head.count ≡ 1 → r ≡ cond (ltb 1 list.count) 15 0 → r ≡ sampling_declined sheet m
      unfolding sampling_declined
      sampling_alone o q =
          q
          ∙ ap (λ n. cond (ltb 1 n) 15 0) (scanned_count sheet few (listed sheet m) (sym e ∙ z))
          ∙ sym (cond_true (eqb (length m.args) 1) _ _ (eq-eqb (length m.args) 1 (sym (count_is line head h) ∙ o)))
          ∙ sym (rows_rest (list_rows sheet (listed sheet m)) _ list_passes)

      -- a list with one
      pub sampling-set : {r : ℕ} {places : List ℕ} → (head.count ≡ 1 → ⊥) → places ≡ places_of list → r ≡ setting_declined sheet places (kind_asked m) (length m.args) (drop 2 m.args) → r ≡ sampling_declined sheet m
      unfolding sampling_declined
      sampling-set ne p q =
          q
          ∙ ap (λ js. setting_declined sheet js (kind_asked m) (length m.args) (drop 2 m.args)) (p ∙ scanned_places sheet few (listed sheet m) (sym e ∙ z))
          ∙ sym (cond_false (eqb (length m.args) 1) _ _ (ne_eqb (length m.args) 1 (λ o. ne (count_is line head h ∙ o))))
          ∙ sym (rows_rest (list_rows sheet (listed sheet m)) _ list_passes)

-- the rows of a request
module _ (sheet : Sheet) (r : Request) (m : Message) {b : Bool} (e : b ≡ count_fits r (length m.args)) where
  pub count_declined : not b ≡ true → 15 ≡ request_declined sheet r m
  count_declined t = rw (← e, t)

  pub count_fitting : not b ≡ false → arguments_declined sheet r m ≡ request_declined sheet r m
  count_fitting t = rw (← e, t)
