-- A file that is cut: behind a line that leaves nothing open, its call tells nothing more.
use Prim.Native.Nat.{ℕ, ◌≤◌, ◌<◌}
use native.Mathlib.Omega.{arith}
use mathlib.Core.Path.{◌≡◌, refl, ap, ap₂, sym, ◌∙◌, subst}
use mathlib.Core.Bool.{Bool, true, false, cond, not, ◌&&◌, true≢false}
use mathlib.Core.List.{List, [], ◌∷◌, ◌++◌, map, append_assoc, nil≢cons, head-eq_of_cons-eq, tail-eq_of_cons-eq}
use lib.Dec.{eqb, ltb}
use lib.ListN.{length}
use borrow.Author.Tests.{eq-eqb, ltb-true, ltb-false, not-true}
use Rattle.message.specs.Message.{line}
use Rattle.message.specs.Delivery.{Delivery}
use Rattle.line.specs.Line.{parse, WellFormed}
use Rattle.machine.specs.declared.Sheet.{Sheet}
use Rattle.machine.specs.declared.State.{State}
use Rattle.machine.specs.declared.Strategy.{Strategy}
use Rattle.machine.specs.Places.{Each, from_first}
use Rattle.machine.specs.Sheet.{sensor_of}
use Rattle.machine.specs.Range.{is_none}
use Rattle.machine.specs.Opening.{Start}
use Rattle.machine.specs.Declined.{Call}
use Rattle.machine.specs.Machine.{step}
use Rattle.machine.specs.Reader.{Told, News, Other, Impossible, Reported, SetTo, news, View, view_after, no_view}
use Rattle.machine.specs.TwoDevices.{after, sheet_of, packets_of, connects, connected_at_end, without_end, is_greeting, lines_to, lines_of, sent_to, clock_of}
use Rattle.machine.specs.Tells.{news_in, line_news, view_in, file_view, ViewTells, FileTells, reading_at}
use Rattle.machine.specs.Cut.{up_to_line, goes_on, may_go_on, leaves_open}
use Rattle.machine.proofs.TestLaws.{and_true, cond_either, cond_cases}
use Rattle.machine.proofs.PlacesLaws.{from_rest, each_behind, each_weaker}
use Rattle.machine.proofs.ShapeLaws.{Held, ReportsOf, by_shape}
use Rattle.machine.proofs.FileLaws.{line_parses}
use Rattle.machine.proofs.Sent.{sent_well_formed}
use Rattle.machine.proofs.ListLaws.{sheet_is, sent_packets}
use Rattle.machine.proofs.HeardLaws.{each_to}
use Rattle.machine.proofs.ArchiveLaws.{lines_packed}
use Rattle.machine.proofs.TellsLaws.{view_in_append, lines_read, tells}
use Rattle.machine.proofs.MomentLaws.{still_on, more_lines}

-- Lists that are cut in two ways.

module _ {A : Type 0} where
  -- within the first part
  cut_within : (before : List A) (l : A) (behind xs ys : List A) → xs ++ ys ≡ before ++ (l ∷ behind) → length before < length xs
      → (mid : List A) × ((xs ≡ before ++ (l ∷ mid)) × (behind ≡ mid ++ ys))
  cut_within before l behind [] ys e h = absurd (omega arith)
  cut_within [] l behind (x ∷ xs) ys e h = (xs, (ap (λ y. y ∷ xs) (head-eq_of_cons-eq e), sym (tail-eq_of_cons-eq e)))
  cut_within (b ∷ bs) l behind (x ∷ xs) ys e h = let r = cut_within bs l behind xs ys (tail-eq_of_cons-eq e) (omega arith) in
      (r.0, (ap₂ ◌∷◌ (head-eq_of_cons-eq e) r.1.0, r.1.1))

  -- within the second
  cut_behind : (before : List A) (l : A) (behind xs ys : List A) → xs ++ ys ≡ before ++ (l ∷ behind) → length xs ≤ length before
      → (part : List A) × ((before ≡ xs ++ part) × (ys ≡ part ++ (l ∷ behind)))
  cut_behind before l behind [] ys e h = (before, (refl, e))
  cut_behind [] l behind (x ∷ xs) ys e h = absurd (omega arith)
  cut_behind (b ∷ bs) l behind (x ∷ xs) ys e h = let r = cut_behind bs l behind xs ys (tail-eq_of_cons-eq e) (omega arith) in
      (r.0, (ap₂ ◌∷◌ (sym (head-eq_of_cons-eq e)) r.1.0, r.1.1))

-- What lines tell.

module _ (sheet : Sheet) where
  -- a line that tells nothing
  abbrev Still : List ℕ → Type 0
  Still l = line_news sheet l ≡ Other

  -- a report at the clock t
  abbrev LineAt : ℕ → List ℕ → Type 0
  LineAt t l = (k : ℕ) × ((r : Told) × ((line_news sheet l ≡ Reported k r) × (r.time ≡ t)))

  view_still : (j : ℕ) (ls : List (List ℕ)) (v : View) → Each Still ls → view_in sheet j ls v ≡ v
  unfolding view_in view_after
  view_still j [] v h = refl
  view_still j (l ∷ ls) v h = ap (λ w. view_in sheet j ls (view_after j w v)) h.0 ∙ view_still j ls v h.1

  -- the next line may be of the same call
  abbrev pub opens : List ℕ → List (List ℕ) → Bool
  opens l [] = false
  opens l (next ∷ rest) = goes_on (line_news sheet l) (line_news sheet next)

  -- the lines of one call: wherever they are cut behind a line whose next does not go on, the rest tells nothing
  abbrev Settles : List (List ℕ) → Type 0
  Settles ls = (part : List (List ℕ)) (l : List ℕ) (rest : List (List ℕ)) → ls ≡ part ++ (l ∷ rest) → opens l rest ≡ false → Each Still rest

  still_settles : (ls : List (List ℕ)) → Each Still ls → Settles ls
  still_settles ls h part l rest e f = (each_behind Still part (l ∷ rest) (subst (Each Still) e h)).1

  two_go_on : (t : ℕ) (l next : List ℕ) → LineAt t l → LineAt t next → goes_on (line_news sheet l) (line_news sheet next) ≡ true
  two_go_on t l next h k = ap₂ goes_on h.1.1.0 k.1.1.0 ∙ eq-eqb k.1.0.time h.1.0.time (k.1.1.1 ∙ sym h.1.1.1)

  reports_settle : (t : ℕ) (ls : List (List ℕ)) → Each (LineAt t) ls → Settles ls
  reports_settle t ls h part l rest e f = go rest (each_behind (LineAt t) part (l ∷ rest) (subst (Each (LineAt t)) e h)) f
    where
      go : (rest : List (List ℕ)) → Each (LineAt t) (l ∷ rest) → opens l rest ≡ false → Each Still rest
      go [] k f = tt
      go (next ∷ rest) k f = absurd (true≢false (sym (two_go_on t l next k.0 k.1.0) ∙ f))

  -- behind a sampling reply
  reply_goes_on : (t : ℕ) (l : List ℕ) (js : List ℕ) (st : Strategy) (ls : List (List ℕ)) → line_news sheet l ≡ SetTo js st → Each (LineAt t) ls → (is_none st ≡ true → ls ≡ [])
      → opens l ls ≡ false → Each Still ls
  reply_goes_on t l js st [] e h n f = tt
  reply_goes_on t l js st (next ∷ ls) e h n f = go (is_none st) refl
    where
      go : (b : Bool) → is_none st ≡ b → Each Still (next ∷ ls)
      go true q = absurd (nil≢cons (sym (n q)))
      go false q = absurd (true≢false (sym (ap₂ goes_on e h.0.1.1.0 ∙ ap (λ b. not b && true) q) ∙ f))

  set_settles : (t : ℕ) (l₀ : List ℕ) (js : List ℕ) (st : Strategy) (ls : List (List ℕ)) → line_news sheet l₀ ≡ SetTo js st → Each (LineAt t) ls → (is_none st ≡ true → ls ≡ [])
      → Settles (l₀ ∷ ls)
  set_settles t l₀ js st ls e h n [] l rest q f = subst (Each Still) (tail-eq_of_cons-eq q)
      (reply_goes_on t l₀ js st ls e h n (ap₂ opens (head-eq_of_cons-eq q) (tail-eq_of_cons-eq q) ∙ f))
  set_settles t l₀ js st ls e h n (p ∷ part) l rest q f = reports_settle t ls h part l rest (tail-eq_of_cons-eq q) f

-- One call.

call_settles : (s : State) (call : Call) (a : ℕ) → Each WellFormed (sent_to a (step s call).sent) → Settles s.sheet (map line (sent_to a (step s call).sent))
unfolding sent_to
call_settles s call a = by_shape (λ ds. Each WellFormed (sent_to a ds) → Settles s.sheet (map line (sent_to a ds))) s call
    (λ ds q w. still_settles s.sheet _ (lines_read (λ p. news_in s.sheet p ≡ Other) (sent_to a ds) w (each_to (λ m. news s.sheet m ≡ Other) a ds q)))
    (λ ds q w. reports_settle s.sheet t _ (at_clock ds q w))
    (λ c m js st ds e q n. cond_either (λ ms. Each WellFormed ms → Settles s.sheet (map line ms)) (eqb c a) (m ∷ sent_to a ds) (sent_to a ds)
    (λ w. set_settles s.sheet t (line m) js st (map line (sent_to a ds)) (ap (news_in s.sheet) (line_parses m w.0) ∙ e) (at_clock ds q w.1) (λ z. ap (λ ds. map line (sent_to a ds)) (n z)))
    (λ w. reports_settle s.sheet t _ (at_clock ds q w)))
  where
    t : ℕ
    t = (step s call).next.clock

    at_clock : (ds : List Delivery) → ReportsOf s.sheet (step s call).next ds → Each WellFormed (sent_to a ds) → Each (LineAt s.sheet t) (map line (sent_to a ds))
    at_clock ds q w = each_weaker (λ l. Held s.sheet (step s call).next (line_news s.sheet l)) (LineAt s.sheet t) (λ l h. (h.0, (_, (h.1.1, refl)))) (map line (sent_to a ds))
        (lines_read (λ p. Held s.sheet (step s call).next (news_in s.sheet p)) (sent_to a ds) w (each_to (λ m. Held s.sheet (step s call).next (news s.sheet m)) a ds q))

-- A list of calls.

module _ (start : Start) (a : ℕ) where
  lines_settle : (h : List Call) (call : Call) → Settles (sheet_of start) (lines_to a (packets_of start h call))
  lines_settle h call = let ds = (step (after start h) call).sent in
      subst (λ sheet. Settles sheet (lines_to a (packets_of start h call))) (sheet_is start h)
      (subst (Settles (after start h).sheet) (sym (ap (lines_to a) (sent_packets start a h call) ∙ lines_packed a ds))
      (call_settles (after start h) call a (each_to WellFormed a ds (sent_well_formed (after start h) call))))

  -- the lines that a call gives the connection: those of its connect from the greeting on
  abbrev given : List Call → Call → List (List ℕ)
  given h call = cond (connects start a h call) (from_first (λ l. is_greeting (parse (without_end l))) (lines_to a (packets_of start h call))) (lines_to a (packets_of start h call))

  lines_given : (call : Call) (h : List Call) → lines_of start a (call ∷ h) ≡ cond (connects start a h call) [] (lines_of start a h) ++ given h call
  unfolding lines_of
  lines_given call h = go (connects start a h call)
    where
      go : (b : Bool) → cond b (from_first (λ l. is_greeting (parse (without_end l))) (lines_to a (packets_of start h call))) (lines_of start a h ++ lines_to a (packets_of start h call))
          ≡ cond b [] (lines_of start a h) ++ cond b (from_first (λ l. is_greeting (parse (without_end l))) (lines_to a (packets_of start h call))) (lines_to a (packets_of start h call))
      go true = refl
      go false = refl

  given_settles : (h : List Call) (call : Call) → Settles (sheet_of start) (given h call)
  given_settles h call = cond_either (Settles (sheet_of start)) (connects start a h call) _ _
      (let q = from_rest (λ l. is_greeting (parse (without_end l))) (lines_to a (packets_of start h call)) in
      λ part l rest e f. lines_settle h call (q.0 ++ part) l rest (q.1 ∙ (ap (λ ls. q.0 ++ ls) e ∙ sym (append_assoc q.0 part (l ∷ rest)))) f)
      (lines_settle h call)

  -- a line that is not of an earlier call
  pub from_here : (k : ℕ) (h : List Call) (b : Bool) → (not b && ltb k (length (lines_of start a h))) ≡ false → length (cond b [] (lines_of start a h)) ≤ k
  from_here k h true q = omega arith
  from_here k h false q = ltb-false k (length (lines_of start a h)) q

  module _ (j : ℕ) (hs : j < (sheet_of start).count) (before : List (List ℕ)) (l : List ℕ) where
    -- what the lines up to l tell holds behind the calls g
    abbrev pub Concluded : List Call → Type 0
    Concluded g = FileTells (sheet_of start) j (before ++ (l ∷ [])) (clock_of start g) (reading_at start j g)

    -- of a call that gave the line l: its further lines tell nothing
    this_call : (call : Call) (h : List Call) (behind : List (List ℕ)) → connected_at_end start a (call ∷ h) ≡ true → lines_of start a (call ∷ h) ≡ before ++ (l ∷ behind)
        → opens (sheet_of start) l behind ≡ false → length (cond (connects start a h call) [] (lines_of start a h)) ≤ length before → Concluded (call ∷ h)
    this_call call h behind c e f len = subst (λ v. ViewTells (sensor_of (sheet_of start) j) v (clock_of start (call ∷ h)) (reading_at start j (call ∷ h))) same (tells start a (call ∷ h) c j hs).reading_told
      where
        parts : (part : List (List ℕ)) × ((before ≡ cond (connects start a h call) [] (lines_of start a h) ++ part) × (given h call ≡ part ++ (l ∷ behind)))
        parts = cut_behind before l behind (cond (connects start a h call) [] (lines_of start a h)) (given h call) (sym (lines_given call h) ∙ e) len

        same : file_view (sheet_of start) j (lines_of start a (call ∷ h)) ≡ file_view (sheet_of start) j (before ++ (l ∷ []))
        same = ap (file_view (sheet_of start) j) (e ∙ sym (append_assoc before (l ∷ []) behind)) ∙ (view_in_append (sheet_of start) j (before ++ (l ∷ [])) behind no_view
            ∙ view_still (sheet_of start) j behind _ (given_settles h call parts.0 l behind parts.1.1 f))

    -- of a call behind it
    abbrev pub Before : List Call → Type 0
    Before h = (behind : List (List ℕ)) → connected_at_end start a h ≡ true → lines_of start a h ≡ before ++ (l ∷ behind) → opens (sheet_of start) l behind ≡ false
        → Concluded (up_to_line start a (length before) h)

    earlier_call : (call : Call) (h : List Call) → connects start a h call ≡ false → length before < length (lines_of start a h) → Before h
        → (behind : List (List ℕ)) → connected_at_end start a (call ∷ h) ≡ true → lines_of start a (call ∷ h) ≡ before ++ (l ∷ behind)
        → opens (sheet_of start) l behind ≡ false → Concluded (up_to_line start a (length before) h)
    earlier_call call h n len ih behind c e f =
        let r = cut_within before l behind (lines_of start a h) (lines_to a (packets_of start h call)) (sym (more_lines start a call h n) ∙ e) len in
        ih r.0 (still_on start a call h n c) r.1.0 (shorter r.0 (sym (ap (opens (sheet_of start) l) r.1.1) ∙ f))
      where
        shorter : (mid : List (List ℕ)) → opens (sheet_of start) l (mid ++ lines_to a (packets_of start h call)) ≡ false → opens (sheet_of start) l mid ≡ false
        shorter [] q = refl
        shorter (next ∷ mid) q = q

    pub cut_at : (h : List Call) → Before h
    unfolding up_to_line connected_at_end
    cut_at [] behind c e f = absurd (true≢false (sym c))
    cut_at (call ∷ h) behind c e f = cond_cases Concluded (not (connects start a h call) && ltb (length before) (length (lines_of start a h))) (up_to_line start a (length before) h) (call ∷ h)
        (λ q. let k = and_true (not (connects start a h call)) _ q in
        earlier_call call h (not-true (connects start a h call) k.0) (ltb-true (length before) (length (lines_of start a h)) k.1) (cut_at h) behind c e f)
        (λ q. this_call call h behind c e f (from_here (length before) h (connects start a h call) q))

-- a reader who sees some of the lines behind
may_not : (w next : News) → may_go_on w ≡ false → goes_on w next ≡ false
may_not Other next h = refl
may_not Impossible next h = refl
may_not (Reported k r) next h = absurd (true≢false h)
may_not (SetTo js st) next h = rw h

pub closed : (sheet : Sheet) (l : List ℕ) (seen unseen : List (List ℕ)) → leaves_open sheet l seen ≡ false → opens sheet l (seen ++ unseen) ≡ false
closed sheet l [] [] h = refl
closed sheet l [] (next ∷ unseen) h = may_not (line_news sheet l) (line_news sheet next) h
closed sheet l (next ∷ seen) unseen h = h
