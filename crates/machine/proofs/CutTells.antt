-- A file that is cut: the rule by the next line, and that the rule by the next clock is within it.
use Prim.Native.Nat.{ℕ, ◌<◌}
use Prim.Native.Char.{code}
use native.Mathlib.Omega.{arith}
use mathlib.Core.Path.{◌≡◌, refl, ap, sym, ◌∙◌, subst}
use mathlib.Core.Bool.{Bool, true, false, cond, not, ◌&&◌, ◌||◌, true≢false}
use mathlib.Core.List.{List, [], ◌∷◌, ◌++◌}
use Rattle.std.specs.Prelude.{Option, None, Some}
use Rattle.std.proofs.lemmas.Option.{same_Some}
use lib.Dec.{ltb}
use lib.ListN.{length}
use borrow.Author.Tests.{ne_eqb, ltb-true, not-true}
use Rattle.output.specs.Text.{text}
use Rattle.output.specs.Read.{read_time}
use Rattle.message.specs.Message.{Message}
use Rattle.line.specs.Line.{Parse, malformed, message, parse}
use Rattle.machine.specs.declared.Sheet.{Sheet}
use Rattle.machine.specs.Places.{Each}
use Rattle.machine.specs.Sheet.{sensor_of, place_of}
use Rattle.machine.specs.Opening.{Start}
use Rattle.machine.specs.Requests.{argument}
use Rattle.machine.specs.Declined.{Call}
use Rattle.machine.specs.Reader.{News, Other, Impossible, Reported, SetTo, Parts, is_shaped, parts_with, parts_of, read_value, valued, report_on, report_from, report_read, agreed, sampling_news, agrees, is_named, is_ok, news}
use Rattle.machine.specs.TwoDevices.{sheet_of, connects, connected_at_end, lines_of, without_end}
use Rattle.machine.specs.Tells.{news_in, line_news, shows_clock, clock_in, line_clock, connects_in}
use Rattle.machine.specs.Cut.{is_report, goes_on, leaves_open, next_clock, is_sampling_ok, CutTells, up_to_line, GaveLine}
use Rattle.machine.proofs.TestLaws.{none_some, and_true, cond_either, cond_cases, cond_true}
use Rattle.machine.proofs.PlacesLaws.{each_behind}
use Rattle.machine.proofs.ArchiveLaws.{sampling_either}
use Rattle.machine.proofs.MomentLaws.{still_on}
use Rattle.machine.proofs.CutLaws.{from_here, cut_at, closed}

-- the clock of a report
abbrev clock_told : News → Option ℕ
clock_told Other = None
clock_told Impossible = None
clock_told (Reported k r) = Some r.time
clock_told (SetTo js st) = None

-- a strategy told
abbrev is_set : News → Bool
is_set Other = false
is_set Impossible = false
is_set (Reported k r) = false
is_set (SetTo js st) = true

-- news that come of a `#sensor-status` whose clock reads as t
pub record OfReport (t : Option ℕ) (w : News) : Type 0 where
  pub clocked : is_report w ≡ true → t ≡ clock_told w
  pub not_set : is_set w ≡ false

impossible_of : (t : Option ℕ) → OfReport t Impossible
impossible_of t = record { clocked = λ e. absurd (true≢false (sym e)); not_set = refl }

module _ (sheet : Sheet) where
  valued_of : (j : ℕ) (p : Parts) (v : Option ℕ) → OfReport (Some p.time) (valued j p v)
  valued_of j p None = impossible_of (Some p.time)
  valued_of j p (Some v) = record { clocked = λ _. refl; not_set = refl }

  on_of : (p : Parts) → OfReport (Some p.time) (report_on sheet p)
  unfolding report_on
  on_of p = cond_either (OfReport (Some p.time)) (ltb j sheet.count) (valued j p value) Impossible (valued_of j p value) (impossible_of (Some p.time))
    where
      j : ℕ
      j = place_of sheet p.name

      value : Option ℕ
      value = read_value (sensor_of sheet j) p.value

  with_of : (m : Message) (t : Option ℕ) → OfReport t (report_from sheet (parts_with m t))
  with_of m None = impossible_of None
  with_of m (Some t) = on_of _

  read_of : (m : Message) → OfReport (read_time (argument m 0)) (report_read sheet m)
  unfolding report_read parts_of
  read_of m = cond_either (λ o. OfReport (read_time (argument m 0)) (report_from sheet o)) (is_shaped m) (parts_with m (read_time (argument m 0))) None
      (with_of m (read_time (argument m 0))) (impossible_of (read_time (argument m 0)))

  agreed_of : (t : Option ℕ) (w : News) → OfReport t w → OfReport t (agreed sheet w)
  unfolding agreed
  agreed_of t Other h = h
  agreed_of t Impossible h = h
  agreed_of t (Reported k r) h = cond_either (OfReport t) (agrees (sensor_of sheet k) r.status r.value) (Reported k r) Impossible h (impossible_of t)
  agreed_of t (SetTo js st) h = h

  -- a report is a `#sensor-status` that shows its clock; a strategy comes of a sampling reply with `ok`
  news_of : (m : Message) → (is_report (news sheet m) ≡ true → (shows_clock (message m) ≡ true) × (clock_in (message m) ≡ clock_told (news sheet m)))
      × (is_set (news sheet m) ≡ true → is_ok (text "sensor-sampling") m ≡ true)
  unfolding news
  news_of m = go (is_named (code "#") (text "sensor-status") m) (is_ok (text "sensor-sampling") m) refl refl
    where
      told : OfReport (read_time (argument m 0)) (agreed sheet (report_read sheet m))
      told = agreed_of (read_time (argument m 0)) (report_read sheet m) (read_of m)

      go : (b c : Bool) → is_named (code "#") (text "sensor-status") m ≡ b → is_ok (text "sensor-sampling") m ≡ c
          → (is_report (cond b (agreed sheet (report_read sheet m)) (cond c (sampling_news sheet m) Other)) ≡ true
          → (shows_clock (message m) ≡ true) × (clock_in (message m) ≡ clock_told (cond b (agreed sheet (report_read sheet m)) (cond c (sampling_news sheet m) Other))))
          × (is_set (cond b (agreed sheet (report_read sheet m)) (cond c (sampling_news sheet m) Other)) ≡ true → is_ok (text "sensor-sampling") m ≡ true)
      go true c p q = (λ e. (rw p, rw p (told.clocked e)), λ e. absurd (true≢false (sym e ∙ told.not_set)))
      go false true p q = (λ e. absurd (true≢false (sym e ∙ sampling_either sheet (λ w. is_report w ≡ false) refl (λ js st. refl) m)), λ e. q)
      go false false p q = (λ e. absurd (true≢false (sym e)), λ e. absurd (true≢false (sym e)))

  parse_of : (p : Parse) → (is_report (news_in sheet p) ≡ true → (shows_clock p ≡ true) × (clock_in p ≡ clock_told (news_in sheet p)))
      × (is_set (news_in sheet p) ≡ true → is_sampling_ok p ≡ true)
  parse_of malformed = (λ e. absurd (true≢false (sym e)), λ e. absurd (true≢false (sym e)))
  parse_of (message m) = news_of m

  -- two reports of which the second is later do not go on
  later_not : (l next : List ℕ) (rest : List (List ℕ)) (t : ℕ) → is_sampling_ok (parse (without_end l)) ≡ false → next_clock (next ∷ rest) ≡ Some t
      → ((u : ℕ) → line_clock l ≡ Some u → u < t) → goes_on (line_news sheet l) (line_news sheet next) ≡ false
  later_not l next rest t other n h = go (line_news sheet l) (line_news sheet next) refl refl
    where
      go : (w v : News) → line_news sheet l ≡ w → line_news sheet next ≡ v → goes_on w v ≡ false
      go Other v p q = refl
      go Impossible v p q = refl
      go (SetTo js st) v p q = absurd (true≢false (sym ((parse_of (parse (without_end l))).1 (ap is_set p)) ∙ other))
      go (Reported k r) Other p q = refl
      go (Reported k r) Impossible p q = refl
      go (Reported k r) (SetTo js st) p q = refl
      go (Reported k r) (Reported i s) p q = ne_eqb s.time r.time (λ z. omega (arith, same, z, h r.time (old.1 ∙ ap clock_told p)))
        where
          old : (shows_clock (parse (without_end l)) ≡ true) × (line_clock l ≡ clock_told (line_news sheet l))
          old = (parse_of (parse (without_end l))).0 (ap is_report p)

          new : (shows_clock (parse (without_end next)) ≡ true) × (line_clock next ≡ clock_told (line_news sheet next))
          new = (parse_of (parse (without_end next))).0 (ap is_report q)

          same : s.time ≡ t
          same = same_Some s.time t (sym (ap clock_told q) ∙ (sym new.1 ∙ (sym (cond_true (shows_clock (parse (without_end next))) (line_clock next) (next_clock rest) new.0) ∙ n)))

  later_closes : (before : List (List ℕ)) (l : List ℕ) (seen : List (List ℕ)) (t : ℕ) → is_sampling_ok (parse (without_end l)) ≡ false → next_clock seen ≡ Some t
      → Each (λ k. (u : ℕ) → line_clock k ≡ Some u → u < t) (before ++ (l ∷ [])) → leaves_open sheet l seen ≡ false
  later_closes before l [] t other n h = absurd (none_some t n)
  later_closes before l (next ∷ rest) t other n h = later_not l next rest t other n (each_behind (λ k. (u : ℕ) → line_clock k ≡ Some u → u < t) before (l ∷ []) h).0

-- The call that gave a line.

module _ (start : Start) (a k : ℕ) where
  -- it was found, at the end of `found`
  abbrev Found : List Call → List Call → Type 0
  Found h found = (later : List Call) × ((call : Call) × ((g : List Call) × ((found ≡ call ∷ g) × GaveLine start a k h later call g)))

  -- a call more behind it
  one_more : (call : Call) (h found : List Call) → connects start a h call ≡ false → Found h found → Found (call ∷ h) found
  unfolding connects_in
  one_more call h found n f = let r = f.1.1.1.1 in (
    call ∷ f.0,
    (
      f.1.0,
      (
        f.1.1.0,
        (
          f.1.1.1.0,
          record {
            in_list = ap (λ l. call ∷ l) r.in_list;
            same_connection = or_none_lem (subst (λ l. connects start a l call ≡ false) r.in_list n) r.same_connection;
            not_before = r.not_before;
            by_then = r.by_then;
          },
        ),
      ),
    ),
  )
    where
      or_none_lem : {x y : Bool} → x ≡ false → y ≡ false → (x || y) ≡ false
      or_none_lem p q = rw (p, q)

  gave : (h : List Call) → connected_at_end start a h ≡ true → k < length (lines_of start a h) → Found h (up_to_line start a k h)
  unfolding up_to_line connected_at_end connects_in
  gave [] c l = absurd (true≢false (sym c))
  gave (call ∷ h) c l = cond_cases (Found (call ∷ h)) (not (connects start a h call) && ltb k (length (lines_of start a h))) (up_to_line start a k h) (call ∷ h)
      (λ q. let p = and_true (not (connects start a h call)) _ q in let n = not-true (connects start a h call) p.0 in
      one_more call h (up_to_line start a k h) n (gave h (still_on start a call h n c) (ltb-true k (length (lines_of start a h)) p.1)))
      (λ q. ([], (call, (h, (refl, record { in_list = refl; same_connection = refl; not_before = from_here start a k h (connects start a h call) q; by_then = l })))))

-- a file that is cut
pub cut_tells : CutTells
cut_tells = record {
  given = λ start a k h c l. gave start a k h c l;
  cut = λ start a h c before l seen unseen e f j hs. cut_at start a j hs before l h (seen ++ unseen) c e (closed (sheet_of start) l seen unseen f);
  whole = λ start a h c before l e j hs. cut_at start a j hs before l h [] c e refl;
  by_clock = λ sheet before l seen t other n h. later_closes sheet before l seen t other n h;
}
