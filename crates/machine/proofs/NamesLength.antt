-- The list of names of a sampling: known sensors, none twice, so it is at most 32 names, each written as it is.
use Prim.Native.Nat.{ℕ, suc, ◌+◌, ◌*◌, ◌≤◌, ◌<◌}
use Prim.Native.Char.{code}
use native.Mathlib.Nat.{le_trans}
use native.Mathlib.Omega.{arith}
use mathlib.Core.Path.{◌≡◌, refl, ap, sym, ◌∙◌, subst}
use mathlib.Core.Bool.{Bool, true, false, cond, true≢false}
use mathlib.Core.List.{List, [], ◌∷◌, map}
use lib.Dec.{eqb}
use lib.ListN.{length, length-map}
use borrow.Author.Tests.{eqb-true}
use Rattle.output.specs.Text.{is_digit, all}
use Rattle.output.proofs.TextLaws.{Every}
use Rattle.message.specs.Message.{Message, escape_byte, arg}
use Rattle.message.proofs.MessageLaws.{raw}
use Rattle.line.specs.Line.{letter}
use Rattle.machine.specs.declared.Sheet.{Sheet}
use Rattle.machine.specs.Places.{any, twice, Each}
use Rattle.machine.specs.Sheet.{sensor_of, name_of, place_of, not_on_sheet, name_byte}
use Rattle.machine.specs.Requests.{argument, before, split, listed}
use Rattle.machine.proofs.TestLaws.{and_true}
use Rattle.machine.proofs.PlacesLaws.{each_weaker}
use Rattle.machine.proofs.SheetLaws.{Text, Sensors, name_of_place, places_below}
use Rattle.machine.proofs.CountLaws.{few_distinct}
use Rattle.machine.proofs.LineLengths.{text_short, Raw, arg_raw}

-- The parts between commas.

-- the bytes of parts, and one more for each
abbrev with_commas : List (List ℕ) → ℕ
with_commas [] = 0
with_commas (w ∷ ws) = length w + 1 + with_commas ws

before-length : (b : ℕ) (ws : List (List ℕ)) → suc (with_commas ws) ≤ with_commas (before b ws)
before-length b [] = omega arith
before-length b (w ∷ ws) = omega arith

split-length : (t : List ℕ) → suc (length t) ≤ with_commas (split t)
split-length [] = omega arith
split-length (b ∷ t) = go (eqb b (code ",")) (split-length t)
  where
    go : (c : Bool) → suc (length t) ≤ with_commas (split t) → suc (suc (length t)) ≤ with_commas (cond c ([] ∷ split t) (before b (split t)))
    go true h = omega arith
    go false h = omega (arith, before-length b (split t))

module _ (P : ℕ → Type 0) where
  before_every : (b : ℕ) (ws : List (List ℕ)) → Each (Every P) (before b ws) → P b × Each (Every P) ws
  before_every b [] h = (h.0.0, tt)
  before_every b (w ∷ ws) h = (h.0.0, (h.0.1, h.1))

  -- what is said of every byte of the parts and of the comma
  split_every : P (code ",") → (t : List ℕ) → Each (Every P) (split t) → Every P t
  split_every comma [] h = tt
  split_every comma (b ∷ t) h = go (eqb b (code ",")) refl h (split_every comma t)
    where
      go : (c : Bool) → eqb b (code ",") ≡ c → Each (Every P) (cond c ([] ∷ split t) (before b (split t))) → (Each (Every P) (split t) → Every P t) → P b × Every P t
      go true e h ih = (subst P (sym (eqb-true b (code ",") e)) comma, ih h.1)
      go false e h ih = let q = before_every b (split t) h in (q.0, ih q.1)

-- parts of at most k bytes
commas_most : (k : ℕ) (ws : List (List ℕ)) → Each (λ w. length w ≤ k) ws → with_commas ws ≤ length ws * (k + 1)
commas_most k [] h = omega arith
commas_most k (w ∷ ws) h = omega (arith, h.0, commas_most k ws h.1)

-- Names.

-- a byte of a sensor's name is written as it is
name_raw : (b : ℕ) → name_byte b ≡ true → Raw b
unfolding name_byte letter is_digit
name_raw b h = raw b (not_at 92 refl) (not_at 32 refl) (not_at 0 refl) (not_at 10 refl) (not_at 13 refl) (not_at 27 refl) (not_at 9 refl)
  where
    not_at : (x : ℕ) → name_byte x ≡ false → b ≡ x → ⊥
    not_at x f e = true≢false (sym h ∙ ap name_byte e ∙ f)

comma_raw : Raw (code ",")
unfolding escape_byte
comma_raw = refl

names_raw : (t : List ℕ) → all name_byte t ≡ true → Every Raw t
names_raw [] h = tt
names_raw (b ∷ t) h = let q = and_true (name_byte b) (all name_byte t) h in (name_raw b q.0, names_raw t q.1)

module _ (sheet : Sheet) (r : Sensors sheet) where
  -- a name of a sensor on the sheet
  name_known : (w : List ℕ) → place_of sheet w < sheet.count → (length w ≤ 32) × Every Raw w
  name_known w there = subst (λ (t : List ℕ). (length t ≤ 32) × Every Raw t) (name_of_place sheet w there) (text_short n, names_raw (name_of (sensor_of sheet (place_of sheet w))) n.bytes_are)
    where
      n : Text 1 32 name_byte (sensor_of sheet (place_of sheet w)).name_len (sensor_of sheet (place_of sheet w)).name
      n = (r.sensor_is (place_of sheet w) there).name_is

  each_place : (ws : List (List ℕ)) → Each (λ j. j < sheet.count) (map (place_of sheet) ws) → Each (λ w. (length w ≤ 32) × Every Raw w) ws
  each_place [] h = tt
  each_place (w ∷ ws) h = (name_known w h.0, each_place ws h.1)

  -- no more of them than the sheet may have sensors
  pub places_most : (js : List ℕ) → any (not_on_sheet sheet) js ≡ false → twice js ≡ false → length js ≤ 32
  places_most js known once = le_trans (few_distinct sheet.count js (places_below sheet js known) once) r.count_most

  module _ (m : Message) (known : any (not_on_sheet sheet) (listed sheet m) ≡ false) (once : twice (listed sheet m) ≡ false) where
    pub names_most : length (arg (argument m 0)) ≤ 1058
    unfolding listed
    names_most =
        let t = argument m 0 in
        let parts = each_place (split t) (places_below sheet (listed sheet m) known) in
        let short = each_weaker (λ w. (length w ≤ 32) × Every Raw w) (λ w. length w ≤ 32) (λ w h. h.0) (split t) parts in
        let plain = each_weaker (λ w. (length w ≤ 32) × Every Raw w) (Every Raw) (λ w h. h.1) (split t) parts in
        omega (arith, arg_raw t (split_every Raw comma_raw t plain), split-length t, commas_most 32 (split t) short, length-map (split t) (place_of sheet), places_most (listed sheet m) known once)
