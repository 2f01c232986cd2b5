-- Under auto, event and differential every valid reading lies within the strategy's reach of a valid report that is in the file, and so do the highest of both.
use Prim.Native.Nat.{ℕ, ◌+◌, ◌*◌, ◌≤◌, ◌<◌}
use native.Mathlib.Omega.{arith}
use mathlib.Core.Path.{◌≡◌, refl, ap, sym, ◌∙◌, subst}
use mathlib.Core.Bool.{Bool, true, false, cond, ◌&&◌, ◌||◌, true≢false}
use mathlib.Core.List.{List, [], ◌∷◌, ◌++◌, map, append_assoc, append-nil, append_cancel_left}
use Rattle.std.specs.Prelude.{Some}
use Rattle.std.proofs.lemmas.Option.{same_Some}
use lib.Dec.{eqb, ltb}
use borrow.Author.Tests.{eqb-true, ltb-true, ltb-false}
use Rattle.value.specs.declared.Sample.{Sample}
use Rattle.machine.specs.declared.Sensor.{Sensor}
use Rattle.machine.specs.declared.Sheet.{Sheet}
use Rattle.machine.specs.declared.Strategy.{Strategy}
use Rattle.machine.specs.declared.Strategy.TheVariants.{None, Auto, Period, Event, Differential, EventRate, DifferentialRate}
use Rattle.machine.specs.Places.{any, has, Each}
use Rattle.machine.specs.Sheet.{sensor_of}
use Rattle.machine.specs.Range.{is_none}
use Rattle.machine.specs.Opening.{Start}
use Rattle.machine.specs.Messages.{status_for}
use Rattle.machine.specs.Report.{is_valid, apart, width}
use Rattle.machine.specs.Declined.{Call}
use Rattle.machine.specs.Reader.{Told, News, Other, Impossible, Reported, SetTo, valid_status, View, view_after, no_view}
use Rattle.machine.specs.TwoDevices.{sheet_of, connected_at_end, lines_of, strategy_of, clock_of}
use Rattle.machine.specs.Tells.{line_news, view_in, file_view, Known, reading_at, moments, valid_numbers, valid_in, valid_reports, highest, reach, Under, KeepsStrategy, PeakBounded, TellsAt}
use Rattle.machine.proofs.TestLaws.{none_some, or_in, eqb_refl, cond_either, cond_cases}
use Rattle.machine.proofs.SampleRange.{valid_is}
use Rattle.machine.proofs.PlacesLaws.{each_map, each_front}
use Rattle.machine.proofs.AnyLaws.{any_append}
use Rattle.machine.proofs.TellsLaws.{view_in_append, tells}
use Rattle.machine.proofs.MomentLaws.{each_moment}

-- Numbers in lists.

has_before : (v : ℕ) (xs ys : List ℕ) → has v xs ≡ true → has v (xs ++ ys) ≡ true
unfolding has
has_before v xs ys h = any_append (eqb v) xs ys ∙ ap (λ b. b || any (eqb v) ys) h

has_behind : (v : ℕ) (xs ys : List ℕ) → has v ys ≡ true → has v (xs ++ ys) ≡ true
unfolding has
has_behind v xs ys h = any_append (eqb v) xs ys ∙ or_in (any (eqb v) xs) (any (eqb v) ys) h

highest_has : (v : ℕ) (ns : List ℕ) → has v ns ≡ true → v ≤ highest ns
unfolding has any highest
highest_has v [] h = absurd (true≢false (sym h))
highest_has v (n ∷ ns) h = go (eqb v n) (ltb (highest ns) n) refl refl h (highest_has v ns)
  where
    go : (b c : Bool) → eqb v n ≡ b → ltb (highest ns) n ≡ c → (b || any (eqb v) ns) ≡ true → (any (eqb v) ns ≡ true → v ≤ highest ns) → v ≤ cond c n (highest ns)
    go true true p q r ih = omega (arith, eqb-true v n p)
    go true false p q r ih = omega (arith, eqb-true v n p, ltb-false (highest ns) n q)
    go false true p q r ih = omega (arith, ih r, ltb-true (highest ns) n q)
    go false false p q r ih = ih r

-- The last report is in the file.

module _ (sheet : Sheet) (j : ℕ) where
  reports_append : (xs ys : List (List ℕ)) → valid_reports sheet j (xs ++ ys) ≡ valid_reports sheet j xs ++ valid_reports sheet j ys
  unfolding valid_reports
  reports_append [] ys = refl
  reports_append (l ∷ ls) ys = ap (λ t. valid_in j (line_news sheet l) ++ t) (reports_append ls ys) ∙ sym (append_assoc (valid_in j (line_news sheet l)) _ _)

  -- a valid report that a line has just made the last
  last_of_line : (P : Type 0) (w : News) (v : View) (r : Told) → valid_status r.status ≡ true → (view_after j w v).last ≡ Some r
      → (v.last ≡ Some r → P) → (has r.value (valid_in j w) ≡ true → P) → P
  unfolding view_after has any
  last_of_line P Other v r ok e old now = old e
  last_of_line P Impossible v r ok e old now = old e
  last_of_line P (Reported k s) v r ok e old now = go (eqb k j) e now
    where
      go : (b : Bool) → (cond b (record { strategy = v.strategy; last = Some s }) v).last ≡ Some r
          → (any (eqb r.value) (cond (b && valid_status s.status) (s.value ∷ []) []) ≡ true → P) → P
      go true q f = f (rw (same_Some s r q, ok, eqb_refl r.value))
      go false q f = old q
  last_of_line P (SetTo js st) v r ok e old now = go (has j js) e
    where
      go : (b : Bool) → (cond b (record { strategy = st; last = v.last }) v).last ≡ Some r → P
      go true q = old q
      go false q = old q

  last_in : (P : Type 0) (ls : List (List ℕ)) (v : View) (r : Told) → valid_status r.status ≡ true → (view_in sheet j ls v).last ≡ Some r
      → (v.last ≡ Some r → P) → (has r.value (valid_reports sheet j ls) ≡ true → P) → P
  unfolding view_in valid_reports
  last_in P [] v r ok e old now = old e
  last_in P (l ∷ ls) v r ok e old now = last_in P ls (view_after j (line_news sheet l) v) r ok e
      (λ q. last_of_line P (line_news sheet l) v r ok q old (λ t. now (has_before r.value (valid_in j (line_news sheet l)) (valid_reports sheet j ls) t)))
      (λ q. now (has_behind r.value (valid_in j (line_news sheet l)) (valid_reports sheet j ls) q))

-- Readings under a strategy that has a reach.

module _ (n : Sensor) (clock : ℕ) (x : Sample) (r : Told) where
  reached : (st : Strategy) (w : ℕ) → reach n st ≡ Some w → Known n clock x st r → (status_for n x ≡ r.status) × (is_valid x ≡ true → apart x.number r.value * 1000000 ≤ w)
  reached None w e k = absurd (none_some w e)
  reached Auto w e k = (k.0, λ _. omega (arith, k.1))
  reached (Period p) w e k = absurd (none_some w e)
  reached Event w e k = (k.0, λ _. omega (arith, k.1))
  reached (Differential d) w e k = (k.0, λ v. omega (arith, k.1 v, same_Some (width n d) w e))
  reached (EventRate a b) w e k = absurd (none_some w e)
  reached (DifferentialRate d a b) w e k = absurd (none_some w e)

-- a strategy that has one is not none
reach_some : (n : Sensor) (st : Strategy) (w : ℕ) → reach n st ≡ Some w → is_none st ≡ false
unfolding is_none
reach_some n None w e = absurd (none_some w e)
reach_some n Auto w e = refl
reach_some n (Period p) w e = refl
reach_some n Event w e = refl
reach_some n (Differential d) w e = refl
reach_some n (EventRate a b) w e = refl
reach_some n (DifferentialRate d a b) w e = refl

-- a valid reading has a valid report in the file that it lies within w of
abbrev Covered : Start → ℕ → ℕ → List (List ℕ) → Sample → Type 0
Covered start j w file x = is_valid x ≡ true → (v : ℕ) × ((has v (valid_reports (sheet_of start) j file) ≡ true) × (apart x.number v * 1000000 ≤ w))

-- at a moment whose lines are a start of the file
covered_then : (start : Start) (a j w : ℕ) (st : Strategy) → j < (sheet_of start).count → reach (sensor_of (sheet_of start) j) st ≡ Some w
    → (file : List (List ℕ)) (g : List Call) (rest : List (List ℕ)) → connected_at_end start a g ≡ true → file ≡ lines_of start a g ++ rest → strategy_of start a j g ≡ st
    → Covered start j w file (reading_at start j g)
covered_then start a j w st hs re file g rest on f set valid = (
  r.value,
  (
    subst (λ ls. has r.value (valid_reports (sheet_of start) j ls) ≡ true) (sym f)
        (rw reports_append (has_before r.value (valid_reports (sheet_of start) j (lines_of start a g)) _ listed)),
    near.1 valid,
  ),
)
  where
    t : TellsAt start a g j
    t = tells start a g on j hs

    n : Sensor
    n = sensor_of (sheet_of start) j

    told : (r : Told) × ((file_view (sheet_of start) j (lines_of start a g)).last ≡ Some r)
    told = t.reading_told.was_reported (ap is_none (t.strategy_told ∙ set) ∙ reach_some n st w re)

    r : Told
    r = told.0

    near : (status_for n (reading_at start j g) ≡ r.status) × (is_valid (reading_at start j g) ≡ true → apart (reading_at start j g).number r.value * 1000000 ≤ w)
    near = reached n (clock_of start g) (reading_at start j g) r st w re
        (subst (λ st. Known n (clock_of start g) (reading_at start j g) st r) (t.strategy_told ∙ set) (t.reading_told.tells r told.1 (clock_of start g) (omega arith)))

    listed : has r.value (valid_reports (sheet_of start) j (lines_of start a g)) ≡ true
    listed = last_in (sheet_of start) j (has r.value (valid_reports (sheet_of start) j (lines_of start a g)) ≡ true) (lines_of start a g) _ r
        (ap valid_status (sym near.0) ∙ (sym (valid_is n (reading_at start j g)) ∙ valid)) told.1 (λ q. absurd (none_some r q)) (λ q. q)

module _ (start : Start) (a j w : ℕ) (st : Strategy) (later h : List Call) (u : Under start a j st later h) (re : reach (sensor_of (sheet_of start) j) st ≡ Some w) where
  abbrev file : List (List ℕ)
  file = lines_of start a (later ++ h)

  covered : Each (λ g. strategy_of start a j g ≡ st → Covered start j w file (reading_at start j g)) (moments later h)
  covered = each_moment start a h (λ g. strategy_of start a j g ≡ st → Covered start j w file (reading_at start j g)) file
      (λ g more rest on m f set. covered_then start a j w st u.on_sheet re file g rest on f set) later [] u.earlier.same_connection u.earlier.at_end (sym (append-nil file))

  all_covered : Each (Covered start j w file) (map (reading_at start j) (moments later h))
  all_covered = each_map (Covered start j w file) (reading_at start j) (moments later h) (both (moments later h) covered u.set-since)
    where
      both : (gs : List (List Call)) → Each (λ g. strategy_of start a j g ≡ st → Covered start j w file (reading_at start j g)) gs
          → Each (λ g. strategy_of start a j g ≡ st) gs → Each (λ g. Covered start j w file (reading_at start j g)) gs
      both [] p q = tt
      both (g ∷ gs) p q = (p.0 q.0, both gs p.1 q.1)

  highest_covered : (xs : List Sample) → Each (Covered start j w file) xs → highest (valid_numbers xs) * 1000000 ≤ highest (valid_reports (sheet_of start) j file) * 1000000 + w
  unfolding highest
  highest_covered [] p = omega arith
  highest_covered (x ∷ xs) p = go (is_valid x) refl (highest_covered xs p.1)
    where
      top : ℕ
      top = highest (valid_reports (sheet_of start) j file) * 1000000 + w

      one : is_valid x ≡ true → x.number * 1000000 ≤ top
      one e = let c = p.0 e in omega (arith, c.1.1, highest_has c.0 (valid_reports (sheet_of start) j file) c.1.0)

      go : (b : Bool) → is_valid x ≡ b → highest (valid_numbers xs) * 1000000 ≤ top → highest (cond b (x.number ∷ valid_numbers xs) (valid_numbers xs)) * 1000000 ≤ top
      go false e ih = ih
      go true e ih = higher (ltb (highest (valid_numbers xs)) x.number)
        where
          higher : (c : Bool) → cond c x.number (highest (valid_numbers xs)) * 1000000 ≤ top
          higher true = one e
          higher false = ih

-- The file shows what is set.

module _ (sheet : Sheet) (j : ℕ) (st : Strategy) where
  kept_by : (w : News) (v : View) → v.strategy ≡ st → KeepsStrategy j st w → (view_after j w v).strategy ≡ st
  unfolding view_after
  kept_by Other v e k = e
  kept_by Impossible v e k = e
  kept_by (Reported i r) v e k = cond_either (λ (x : View). x.strategy ≡ st) (eqb i j) (record { strategy = v.strategy; last = Some r }) v e e
  kept_by (SetTo js new) v e k = cond_cases (λ (x : View). x.strategy ≡ st) (has j js) (record { strategy = new; last = v.last }) v k (λ _. e)

  kept_in : (ls : List (List ℕ)) (v : View) → v.strategy ≡ st → Each (λ l. KeepsStrategy j st (line_news sheet l)) ls → (view_in sheet j ls v).strategy ≡ st
  unfolding view_in
  kept_in [] v e k = e
  kept_in (l ∷ ls) v e k = kept_in ls _ (kept_by (line_news sheet l) v e k.0) k.1

set_at : (start : Start) (a j : ℕ) (st : Strategy) → j < (sheet_of start).count → (h g : List Call) (more rest behind : List (List ℕ)) → connected_at_end start a g ≡ true
    → lines_of start a g ≡ lines_of start a h ++ more → lines_of start a h ++ behind ≡ lines_of start a g ++ rest
    → (file_view (sheet_of start) j (lines_of start a h)).strategy ≡ st → Each (λ l. KeepsStrategy j st (line_news (sheet_of start) l)) behind → strategy_of start a j g ≡ st
set_at start a j st hs h g more rest behind on m f set k =
    sym (tells start a g on j hs).strategy_told
    ∙ (ap (λ ls. (file_view (sheet_of start) j ls).strategy) m ∙ (ap (λ (v : View). v.strategy) (view_in_append (sheet_of start) j (lines_of start a h) more no_view)
    ∙ kept_in (sheet_of start) j st more _ set (each_front _ more rest (subst (Each (λ l. KeepsStrategy j st (line_news (sheet_of start) l))) split k))))
  where
    split : behind ≡ more ++ rest
    split = append_cancel_left (lines_of start a h) behind (more ++ rest) (f ∙ (ap (λ l. l ++ rest) m ∙ append_assoc (lines_of start a h) more rest))

-- peaks
pub peak_bounded : PeakBounded
peak_bounded = record {
  within = λ start a j w st later h u re. all_covered start a j w st later h u re;
  peak = λ start a j w st later h u re. highest_covered start a j w st later h u re (map (reading_at start j) (moments later h)) (all_covered start a j w st later h u re);
  as_shown = λ start a j st later h behind e hs f set k. record {
    earlier = e;
    on_sheet = hs;
    set-since = each_moment start a h (λ g. strategy_of start a j g ≡ st) (lines_of start a h ++ behind)
        (λ g more rest on m f. set_at start a j st hs h g more rest behind on m f set k) later [] e.same_connection e.at_end (sym f ∙ sym (append-nil (lines_of start a (later ++ h))));
  };
}
