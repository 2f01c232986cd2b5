-- What a client's messages tell of a sensor: over deliveries, over a visit's reports, over the reports of a list.
use Prim.Native.Nat.{ℕ, zero, suc, ◌+◌, ◌*◌, ◌/◌, ◌%◌, ◌<◌}
use native.Mathlib.Omega.{arith}
use mathlib.Core.Path.{◌≡◌, refl, ap, ap₂, sym, ◌∙◌}
use mathlib.Core.Bool.{Bool, true, false, cond, ◌&&◌, ◌||◌, true≢false}
use mathlib.Core.List.{List, [], ◌∷◌, ◌++◌, map, append-nil}
use Rattle.std.specs.Prelude.{Some}
use lib.Dec.{eqb}
use borrow.Author.Tests.{eqb-true, eqb-false}
use Rattle.message.specs.Message.{Message}
use Rattle.message.specs.Delivery.{Delivery, to}
use Rattle.machine.specs.declared.Sheet.{Sheet}
use Rattle.machine.specs.declared.State.{State}
use Rattle.machine.specs.declared.Cause.{Cause}
use Rattle.machine.specs.Places.{gather, one_if, any, has, Each}
use Rattle.machine.specs.Sheet.{sensor_of}
use Rattle.machine.specs.State.{present, pair_at, pair_of}
use Rattle.machine.specs.Messages.{report_of}
use Rattle.machine.specs.Report.{due_at, pair_sends}
use Rattle.machine.specs.Reader.{View, Other, Reported, news, view_after, view_by, told_of}
use Rattle.machine.specs.TwoDevices.{sent_to}
use Rattle.machine.proofs.TestLaws.{cond_false, cond_either, eqb_refl, eqb_sym}
use Rattle.machine.proofs.StateLaws.{place_client, place_sensor, due_below}

module _ (sheet : Sheet) (j : ℕ) where
  pub view_append : (xs ys : List Message) (v : View) → view_by sheet j (xs ++ ys) v ≡ view_by sheet j ys (view_by sheet j xs v)
  unfolding view_by
  view_append [] ys v = refl
  view_append (m ∷ ms) ys v = view_append ms ys (view_after j (news sheet m) v)

  -- messages that tell nothing
  pub quiet_viewed : (ms : List Message) (v : View) → Each (λ m. news sheet m ≡ Other) ms → view_by sheet j ms v ≡ v
  unfolding view_by view_after
  quiet_viewed [] v h = refl
  quiet_viewed (m ∷ ms) v h = ap (λ w. view_by sheet j ms (view_after j w v)) h.0 ∙ quiet_viewed ms v h.1

-- what holds of every message that is sent holds of those to a client
pub each_to : (P : Message → Type 0) (a : ℕ) (ds : List Delivery) → Each (λ (d : Delivery). P d.message) ds → Each P (sent_to a ds)
unfolding sent_to
each_to P a [] h = tt
each_to P a (d ∷ ds) h = cond_either (Each P) (eqb d.client a) (d.message ∷ sent_to a ds) (sent_to a ds) (h.0, each_to P a ds h.1) (each_to P a ds h.1)

pub sent-append : (a : ℕ) (xs ys : List Delivery) → sent_to a (xs ++ ys) ≡ sent_to a xs ++ sent_to a ys
unfolding sent_to
sent-append a [] ys = refl
sent-append a (d ∷ ds) ys = go (eqb d.client a) (sent-append a ds ys)
  where
    go : (b : Bool) → sent_to a (ds ++ ys) ≡ sent_to a ds ++ sent_to a ys
        → cond b (d.message ∷ sent_to a (ds ++ ys)) (sent_to a (ds ++ ys)) ≡ cond b (d.message ∷ sent_to a ds) (sent_to a ds) ++ sent_to a ys
    go true h = ap (λ l. d.message ∷ l) h
    go false h = h

-- what client a is sent over places, where one place alone sends to it
module _ (a : ℕ) (f : ℕ → List Delivery) where
  sent_nowhere : (n : ℕ) → ((i : ℕ) → i < n → sent_to a (f i) ≡ []) → sent_to a (gather f n) ≡ []
  unfolding gather sent_to
  sent_nowhere zero h = refl
  sent_nowhere (suc n) h = sent-append a (gather f n) (f n) ∙ ap₂ ◌++◌ (sent_nowhere n (λ i k. h i (omega arith))) (h n (omega arith))

  pub sent_at_one : (n t : ℕ) → t < n → ((i : ℕ) → i < n → (i ≡ t → ⊥) → sent_to a (f i) ≡ []) → sent_to a (gather f n) ≡ sent_to a (f t)
  unfolding gather
  sent_at_one zero t l h = absurd (omega arith)
  sent_at_one (suc n) t l h = sent-append a (gather f n) (f n) ∙ go (eqb n t) refl (sent_at_one n t)
    where
      go : (b : Bool) → eqb n t ≡ b → (t < n → ((i : ℕ) → i < n → (i ≡ t → ⊥) → sent_to a (f i) ≡ []) → sent_to a (gather f n) ≡ sent_to a (f t))
          → sent_to a (gather f n) ++ sent_to a (f n) ≡ sent_to a (f t)
      go true e ih = ap (λ l. l ++ sent_to a (f n)) (sent_nowhere n (λ i k. h i (omega arith) (λ q. omega (arith, eqb-true n t e)))) ∙ ap (λ i. sent_to a (f i)) (eqb-true n t e)
      go false e ih = ap (λ l. sent_to a (gather f n) ++ l) (h n (omega arith) (eqb-false n t e)) ∙ (append-nil _ ∙ ih (omega (arith, eqb-false n t e)) (λ i k. h i (omega arith)))

-- what client a hears of sensor j in deliveries
unfoldable pub heard : Sheet → ℕ → ℕ → List Delivery → View → View
heard sheet a j ds v = view_by sheet j (sent_to a ds) v

module _ (sheet : Sheet) (a j : ℕ) where
  pub heard-append : (xs ys : List Delivery) (v : View) → heard sheet a j (xs ++ ys) v ≡ heard sheet a j ys (heard sheet a j xs v)
  unfolding heard
  heard-append xs ys v = ap (λ l. view_by sheet j l v) (sent-append a xs ys) ∙ view_append sheet j (sent_to a xs) (sent_to a ys) v

  pub heard_none : (v : View) → heard sheet a j [] v ≡ v
  unfolding heard sent_to view_by
  heard_none v = refl

  pub heard_more : (c : ℕ) (m : Message) (ds : List Delivery) (v : View)
      → heard sheet a j (to c m ∷ ds) v ≡ heard sheet a j ds (cond (eqb c a) (view_after j (news sheet m) v) v)
  unfolding heard sent_to view_by
  heard_more c m ds v = go (eqb c a)
    where
      go : (b : Bool) → view_by sheet j (cond b (m ∷ sent_to a ds) (sent_to a ds)) v ≡ view_by sheet j (sent_to a ds) (cond b (view_after j (news sheet m) v) v)
      go true = refl
      go false = refl

  -- a message that tells nothing
  pub other_heard : (c : ℕ) (m : Message) (v : View) → news sheet m ≡ Other → cond (eqb c a) (view_after j (news sheet m) v) v ≡ v
  unfolding view_after
  other_heard c m v q = go (eqb c a)
    where
      go : (b : Bool) → cond b (view_after j (news sheet m) v) v ≡ v
      go true = ap (λ w. view_after j w v) q
      go false = refl

  -- deliveries that tell nothing
  pub quiet_heard : (ds : List Delivery) (v : View) → Each (λ (d : Delivery). news sheet d.message ≡ Other) ds → heard sheet a j ds v ≡ v
  unfolding heard
  quiet_heard ds v h = quiet_viewed sheet j (sent_to a ds) v (each_to (λ m. news sheet m ≡ Other) a ds h)

  -- what is collected over places: where no place tells anything, and where one place alone does
  pub gather_quiet : (f : ℕ → List Delivery) (n : ℕ) (v : View) → ((i : ℕ) → i < n → (w : View) → heard sheet a j (f i) w ≡ w) → heard sheet a j (gather f n) v ≡ v
  unfolding gather
  gather_quiet f zero v h = heard_none v
  gather_quiet f (suc n) v h = heard-append (gather f n) (f n) v ∙ (ap (heard sheet a j (f n)) (gather_quiet f n v (λ i k. h i (omega arith))) ∙ h n (omega arith) v)

  pub gather_only : (f : ℕ → List Delivery) (n t : ℕ) (v : View) → t < n → ((i : ℕ) → i < n → (i ≡ t → ⊥) → (w : View) → heard sheet a j (f i) w ≡ w)
      → heard sheet a j (gather f n) v ≡ heard sheet a j (f t) v
  unfolding gather
  gather_only f zero t v l h = absurd (omega arith)
  gather_only f (suc n) t v l h = heard-append (gather f n) (f n) v ∙ go (eqb n t) refl (gather_only f n t v)
    where
      go : (b : Bool) → eqb n t ≡ b → (t < n → ((i : ℕ) → i < n → (i ≡ t → ⊥) → (w : View) → heard sheet a j (f i) w ≡ w) → heard sheet a j (gather f n) v ≡ heard sheet a j (f t) v)
          → heard sheet a j (f n) (heard sheet a j (gather f n) v) ≡ heard sheet a j (f t) v
      go true e ih = ap (heard sheet a j (f n)) (gather_quiet f n v (λ i k. h i (omega arith) (λ q. omega (arith, eqb-true n t e)))) ∙ ap (λ i. heard sheet a j (f i) v) (eqb-true n t e)
      go false e ih = h n (omega arith) (eqb-false n t e) _ ∙ ih (omega (arith, eqb-false n t e)) (λ i k. h i (omega arith))

-- the report of a sensor's present reading is read as such
abbrev pub Readable : Sheet → State → Type 0
Readable sheet s = (k : ℕ) → k < sheet.count → news sheet (report_of sheet s k) ≡ Reported k (told_of (sensor_of sheet k) s.clock (present s k))

module _ (sheet : Sheet) (s : State) (readable : Readable sheet s) (a j : ℕ) where
  -- the view after the report of sensor j's present reading
  abbrev pub told_now : View → View
  told_now v = record { strategy = v.strategy; last = Some (told_of (sensor_of sheet j) s.clock (present s j)) }

  -- a report of sensor k to client c
  pub report_heard : (c k : ℕ) (v : View) → k < sheet.count
      → cond (eqb c a) (view_after j (news sheet (report_of sheet s k)) v) v ≡ cond (eqb c a && eqb k j) (told_now v) v
  unfolding view_after
  report_heard c k v h = go (eqb c a) (eqb k j) refl
    where
      go : (b d : Bool) → eqb k j ≡ d → cond b (view_after j (news sheet (report_of sheet s k)) v) v ≡ cond (b && d) (told_now v) v
      go true true e = ap (λ w. view_after j w v) (readable k h) ∙ rw (eqb-true k j e, eqb_refl j)
      go true false e = ap (λ w. view_after j w v) (readable k h) ∙ rw e
      go false d e = refl

  -- a report of sensor k to client c, where it is sent
  sent_heard : (c k : ℕ) (b : Bool) (v : View) → (b ≡ true → k < sheet.count)
      → heard sheet a j (one_if b (to c (report_of sheet s k))) v ≡ cond (b && (eqb c a && eqb k j)) (told_now v) v
  sent_heard c k true v h = heard_more sheet a j c (report_of sheet s k) [] v ∙ (heard_none sheet a j _ ∙ report_heard c k v (h refl))
  sent_heard c k false v h = heard_none sheet a j v

  -- reports of a visit
  pub visit_heard : (cause : Cause) (v : View) → a < 8 → j < 32
      → heard sheet a j (gather (pair_sends sheet s cause) 256) v ≡ cond (due_at sheet s cause a j (pair_of s a j)) (told_now v) v
  unfolding pair_sends
  visit_heard cause v ha hj = gather_only sheet a j (pair_sends sheet s cause) 256 (a * 32 + j) v (omega arith) others ∙ own
    where
      on_sheet : (i : ℕ) → due_at sheet s cause (i / 32) (i % 32) (pair_at s i) ≡ true → i % 32 < sheet.count
      on_sheet i e = due_below sheet s cause (i / 32) (i % 32) (pair_at s i) e

      not_both : (i : ℕ) → (i ≡ a * 32 + j → ⊥) → (b c d : Bool) → eqb (i / 32) a ≡ c → eqb (i % 32) j ≡ d → (b && (c && d)) ≡ false
      not_both i n false c d p q = refl
      not_both i n true false d p q = refl
      not_both i n true true false p q = refl
      not_both i n true true true p q = absurd (n (omega (arith, eqb-true (i / 32) a p, eqb-true (i % 32) j q)))

      others : (i : ℕ) → i < 256 → (i ≡ a * 32 + j → ⊥) → (w : View) → heard sheet a j (pair_sends sheet s cause i) w ≡ w
      others i l n w = sent_heard (i / 32) (i % 32) (due_at sheet s cause (i / 32) (i % 32) (pair_at s i)) w (on_sheet i)
          ∙ cond_false _ (told_now w) w (not_both i n (due_at sheet s cause (i / 32) (i % 32) (pair_at s i)) (eqb (i / 32) a) (eqb (i % 32) j) refl refl)

      own : heard sheet a j (pair_sends sheet s cause (a * 32 + j)) v ≡ cond (due_at sheet s cause a j (pair_of s a j)) (told_now v) v
      own = sent_heard ((a * 32 + j) / 32) ((a * 32 + j) % 32) (due_at sheet s cause ((a * 32 + j) / 32) ((a * 32 + j) % 32) (pair_at s (a * 32 + j))) v (on_sheet (a * 32 + j))
          ∙ rw (place_client a j hj, place_sensor a j hj, eqb_refl a, eqb_refl j) (both (due_at sheet s cause a j (pair_of s a j)))
        where
          both : (b : Bool) → cond (b && true) (told_now v) v ≡ cond b (told_now v) v
          both true = refl
          both false = refl

  -- reports to client c in the order of a list
  pub listed_heard : (c : ℕ) (js : List ℕ) (v : View) → Each (λ k. k < sheet.count) js
      → heard sheet a j (map (λ k. to c (report_of sheet s k)) js) v ≡ cond (eqb c a && has j js) (told_now v) v
  unfolding has any
  listed_heard c [] v h = heard_none sheet a j v ∙ none (eqb c a)
    where
      none : (b : Bool) → v ≡ cond (b && false) (told_now v) v
      none true = refl
      none false = refl
  listed_heard c (k ∷ ks) v h = heard_more sheet a j c (report_of sheet s k) _ v
      ∙ (ap (heard sheet a j (map (λ k. to c (report_of sheet s k)) ks)) (report_heard c k v h.0) ∙ (listed_heard c ks _ h.1 ∙ go (eqb c a) (eqb k j) (eqb j k) (any (eqb j) ks) (eqb_sym k j)))
    where
      go : (b d e f : Bool) → d ≡ e → cond (b && f) (told_now (cond (b && d) (told_now v) v)) (cond (b && d) (told_now v) v) ≡ cond (b && (e || f)) (told_now v) v
      go false d e f q = refl
      go true true true true q = refl
      go true true true false q = refl
      go true false false true q = refl
      go true false false false q = refl
      go true true false f q = absurd (true≢false q)
      go true false true f q = absurd (true≢false (sym q))
