-- A visit, from place to place: what the places that it has passed leave and send, and that none reports that it jumps over.
use Prim.Native.Nat.{ℕ, zero, suc, ◌+◌, ◌/◌, ◌%◌, ◌-◌, ◌<◌, ◌≤◌, min}
use native.Mathlib.Omega.{arith}
use native.Mathlib.Numerals.{add-one}
use mathlib.Core.Path.{◌≡◌, refl, sym, ap, ◌∙◌, subst}
use mathlib.Core.Bool.{Bool, true, false, cond, ◌&&◌, and_assoc, true≢false}
use mathlib.Core.List.{List, [], ◌∷◌, ◌++◌, append_assoc, append-nil}
use lib.Dec.{eqb, ltb}
use lib.ListN.{length, get_or, drop, set}
use lib.Seq.{drop-cons}
use borrow.Author.Tests.{eqb-true, eqb-false, ltb-true, lt-ltb, eq-eqb}
use Rattle.output.specs.Output.{Output}
use Rattle.message.specs.Delivery.{Delivery, to, Sent}
use Rattle.message.proofs.DeliveryLaws.{and, none_sent, as_sent}
use Rattle.machine.specs.declared.Subscription.{Subscription}
use Rattle.machine.specs.declared.State.{State}
use Rattle.machine.specs.declared.Cause.{Cause}
use Rattle.machine.specs.declared.Cause.TheVariants.{Tick, Reading}
use Rattle.machine.specs.Places.{tabulate, gather, one_if}
use Rattle.machine.specs.Sheet.{sensor_of}
use Rattle.machine.specs.State.{no_subscription, present, connected, pair_at, with_pairs}
use Rattle.machine.specs.Messages.{report_of}
use Rattle.machine.specs.Report.{by_reading, concerns, due, due_at, reported, pair_after, pair_sends, visit}
use Rattle.machine.proofs.StoreLaws.{filled_one, filled_all, unwritten}
use Rattle.machine.proofs.TestLaws.{and_true, and_in}
use Rattle.sampling.specs.Visits.{can_report, first_of, next_place}
use Rattle.sampling.proofs.TurnLaws.{cannot, asked}

-- what holds at m and goes from each place before n to the next holds at n
up : (P : ℕ → Type 0) (m n : ℕ) → m ≤ n → ((q : ℕ) → m ≤ q → q < n → P q → P (suc q)) → P m → P n
up P m zero l f x = let e : m ≡ 0 = omega arith in subst P e x
up P m (suc n) l f x = go (eqb m (suc n)) refl (up P m n)
  where
    go : (b : Bool) → eqb m (suc n) ≡ b → (m ≤ n → ((q : ℕ) → m ≤ q → q < n → P q → P (suc q)) → P m → P n) → P (suc n)
    go true e ih = subst P (eqb-true m (suc n) e) x
    go false e ih = let k : m ≤ n = omega (arith, eqb-false m (suc n) e) in f n k (omega arith) (ih k (λ q h i. f q h (omega arith)) x)

-- whether client and sensor of a place are there
abbrev there : State → ℕ → Bool
there s p = connected s (p / 32) && ltb (p % 32) s.sheet.count

-- whether the place reports, where the call visits at all
abbrev reports : Bool → State → Cause → ℕ → Bool
reports visits s cause p = visits && due_at s.sheet s cause (p / 32) (p % 32) (pair_at s p)

-- the subscription that it leaves
abbrev leaves : Bool → State → Cause → ℕ → Subscription
leaves visits s cause p = cond (reports visits s cause p) (reported s.clock (present s (p % 32)) (pair_at s p)) (pair_at s p)

-- what it sends
abbrev sends : Bool → State → Cause → ℕ → List Delivery
sends visits s cause p = one_if (reports visits s cause p) (to (p / 32) (report_of s.sheet s (p % 32)))

-- the visit has passed the places before n: these are the subscriptions, and this was sent
pub record Passed (visits : Bool) (s : State) (cause : Cause) (start : Output) (n : ℕ) (pairs : List Subscription) (end : Output) : Type 0 where
  pub left : pairs ≡ tabulate (leaves visits s cause) n ++ drop n s.subscriptions
  pub sent : Sent start (gather (sends visits s cause) n) end

-- no place is passed
begun : (visits : Bool) (s : State) (cause : Cause) (start : Output) → Passed visits s cause start 0 s.subscriptions start
unfolding tabulate gather
begun visits s cause start = record { left = refl; sent = none_sent }

module _ {visits : Bool} {s : State} {cause : Cause} {start end : Output} {pairs : List Subscription} (all : length s.subscriptions ≡ 256) where
  -- a place that does not report is passed
  one_silent : (n : ℕ) → n < 256 → reports visits s cause n ≡ false → Passed visits s cause start n pairs end → Passed visits s cause start (suc n) pairs end
  unfolding tabulate gather
  one_silent n l e h = record {
    left = h.left ∙ rw (drop-cons s.subscriptions n no_subscription (omega arith), e) (sym (append_assoc (tabulate (leaves visits s cause) n) (pair_at s n ∷ []) (drop (suc n) s.subscriptions)));
    sent = as_sent h.sent (rw e (sym (append-nil (gather (sends visits s cause) n))));
  }

  -- so are places that do not report
  silent : (m n : ℕ) → m ≤ n → n ≤ 256 → ((q : ℕ) → m ≤ q → q < n → reports visits s cause q ≡ false)
      → Passed visits s cause start m pairs end → Passed visits s cause start n pairs end
  silent m n k l none = up (λ n. Passed visits s cause start n pairs end) m n k (λ q h i. one_silent q (omega arith) (none q h i))

-- a test that cannot hold is false
refuted : (b : Bool) → (b ≡ true → ⊥) → b ≡ false
refuted true h = absurd (h refl)
refuted false h = refl

-- where five tests hold, the first and the fourth do, and the second and the third
all_five : (a b c d e : Bool) → (a && (b && (c && (d && e)))) ≡ true → ((a && d) ≡ true) × ((b && c) ≡ true)
all_five true true true true e h = (refl, refl)
all_five true true true false e h = absurd (true≢false (sym h))
all_five true true false d e h = absurd (true≢false (sym h))
all_five true false c d e h = absurd (true≢false (sym h))
all_five false b c d e h = absurd (true≢false (sym h))

module _ (visits : Bool) (s : State) where
  -- a place that reports is one of the visit, and its client and its sensor are there
  reports_there : (cause : Cause) (p : ℕ) → reports visits s cause p ≡ true → ((visits && concerns cause (p % 32)) ≡ true) × (there s p ≡ true)
  unfolding due_at
  reports_there cause p h =
      all_five visits (connected s (p / 32)) (ltb (p % 32) s.sheet.count) (concerns cause (p % 32))
      (due (by_reading cause) s.clock (sensor_of s.sheet (p % 32)) (present s (p % 32)) (pair_at s p)) h

  -- no place before the first reports
  first_silent : (cause : Cause) (q : ℕ) → q < 256 → q < cond visits (first_of cause) 256 → reports visits s cause q ≡ false
  first_silent cause q l k = refuted (reports visits s cause q) (λ r.
      let a = and_true visits (concerns cause (q % 32)) (reports_there cause q r).0 in
      go cause (rw a.0 at k) a.1)
    where
      go : (cause : Cause) → q < first_of cause → concerns cause (q % 32) ≡ true → ⊥
      go Tick k e = omega arith
      go (Reading j) k e =
          let f : j ≡ q % 32 = eqb-true j (q % 32) e in
          let m : q < j = rw (lt-ltb j 32 (omega arith)) at k in
          omega arith

  -- no place between one of the visit and the next reports
  next_silent : (cause : Cause) (p q : ℕ) → (visits && concerns cause (p % 32)) ≡ true → p < q → q < next_place cause (there s p) p → reports visits s cause q ≡ false
  unfolding next_place
  next_silent Tick p q h k l = go (there s p) refl l
    where
      go : (t : Bool) → there s p ≡ t → q < cond t (p + 1) (p - p % 32 + 32) → reports visits s Tick q ≡ false
      go true e l = absurd (omega arith)
      go false e l = refuted (reports visits s Tick q) (λ r.
          let a = and_true (connected s (q / 32)) (ltb (q % 32) s.sheet.count) (reports_there Tick q r).1 in
          let row : q / 32 ≡ p / 32 = omega arith in
          let sensor : ltb (p % 32) s.sheet.count ≡ true = lt-ltb (p % 32) s.sheet.count (omega (arith, ltb-true (q % 32) s.sheet.count a.1)) in
          true≢false (sym (and_in (connected s (p / 32)) (ltb (p % 32) s.sheet.count) (rw row at a.0) sensor) ∙ e))
  next_silent (Reading j) p q h k l = refuted (reports visits s (Reading j) q) (λ r.
      let a = eqb-true j (q % 32) (and_true visits (eqb j (q % 32)) (reports_there (Reading j) q r).0).1 in
      let b = eqb-true j (p % 32) (and_true visits (eqb j (p % 32)) h).1 in
      omega arith)

-- the first place is one of the visit
first_on : (visits : Bool) (cause : Cause) → cond visits (first_of cause) 256 < 256 → (visits && concerns cause (cond visits (first_of cause) 256 % 32)) ≡ true
first_on false cause l = absurd (omega arith)
first_on true Tick l = refl
first_on true (Reading j) l = go (ltb j 32) refl l
  where
    go : (t : Bool) → ltb j 32 ≡ t → cond t j 256 < 256 → eqb j (cond t j 256 % 32) ≡ true
    go true e l = eq-eqb j (j % 32) (omega (arith, ltb-true j 32 e))
    go false e l = absurd (omega arith)

-- so is the next
next_on : (visits t : Bool) (cause : Cause) (p : ℕ) → (visits && concerns cause (p % 32)) ≡ true → (visits && concerns cause (next_place cause t p % 32)) ≡ true
unfolding next_place
next_on visits t Tick p h = h
next_on visits t (Reading j) p h = let e : (p + 32) % 32 ≡ p % 32 = omega arith in rw e h

-- and it lies behind
pub next_behind : (t : Bool) (cause : Cause) (p : ℕ) → p < next_place cause t p
unfolding next_place
next_behind true Tick p = omega arith
next_behind false Tick p = omega arith
next_behind t (Reading j) p = omega arith

-- the visit has come to p: one of its places, or behind them all, and those before it are passed
pub record Come (visits : Bool) (s : State) (cause : Cause) (start : Output) (p : ℕ) (pairs : List Subscription) (end : Output) : Type 0 where
  pub on : p < 256 → (visits && concerns cause (p % 32)) ≡ true
  pub passed : Passed visits s cause start (min p 256) pairs end

-- it begins at the first place
pub first_come : (visits : Bool) (s : State) (cause : Cause) (start : Output) {p : ℕ} → length s.subscriptions ≡ 256 → p ≡ cond visits (first_of cause) 256
    → Come visits s cause start p s.subscriptions start
first_come visits s cause start {p} all e = record {
  on = λ l. rw e (first_on visits cause (rw e at l));
  passed = silent all 0 (min p 256) (omega arith) (omega arith) (λ q k l. first_silent visits s cause q (omega arith) (omega (arith, e))) (begun visits s cause start);
}

-- The turn of the place that the visit has come to.
module _ {visits : Bool} {s : State} {cause : Cause} {start end : Output} {pairs : List Subscription} {p : ℕ} (all : length s.subscriptions ≡ 256)
    (below : p < 256) (come : Come visits s cause start p pairs end) where
  -- the places before it are passed
  now : Passed visits s cause start p pairs end
  now = let e : min p 256 ≡ p = omega arith in rw e at come.passed

  -- its subscription is as it was
  pair_same : get_or pairs p no_subscription ≡ pair_at s p
  pair_same = rw now.left (unwritten (leaves visits s cause) s.subscriptions p no_subscription (omega arith))

  -- whether it reports
  turn : reports visits s cause p ≡ (there s p && due (by_reading cause) s.clock (sensor_of s.sheet (p % 32)) (present s (p % 32)) (get_or pairs p no_subscription))
  unfolding due_at
  turn = let q = and_true visits (concerns cause (p % 32)) (come.on below) in rw (q.0, q.1, and_assoc, pair_same)

  -- where it is there and its strategy can report, it is asked
  pub turn_asked : (reading can is : Bool) → reading ≡ by_reading cause → (there s p && can) ≡ true
      → is ≡ due reading s.clock (sensor_of s.sheet (p % 32)) (present s (p % 32)) (get_or pairs p no_subscription) → reports visits s cause p ≡ is
  turn_asked reading can is e t h =
      turn ∙ asked (there s p) can (due (by_reading cause) s.clock (sensor_of s.sheet (p % 32)) (present s (p % 32)) (get_or pairs p no_subscription)) is t (rw e at h)

  -- else it does not report
  pub turn_not : (reading can : Bool) → reading ≡ by_reading cause → can ≡ can_report reading (get_or pairs p no_subscription).strategy → (there s p && can) ≡ false
      → reports visits s cause p ≡ false
  turn_not reading can e k t =
      turn ∙ cannot (there s p) (by_reading cause) s.clock (sensor_of s.sheet (p % 32)) (present s (p % 32)) (get_or pairs p no_subscription) (rw (k, e) at t)

  -- after its report the place is passed
  pub turn_reports : {x : Subscription} {end' : Output} → reports visits s cause p ≡ true
      → x ≡ reported s.clock (present s (p % 32)) (get_or pairs p no_subscription) → Sent end (to (p / 32) (report_of s.sheet s (p % 32)) ∷ []) end'
      → Passed visits s cause start (p + 1) (set pairs p x) end'
  unfolding gather
  turn_reports {x} e f g =
      let w : x ≡ leaves visits s cause p = rw (e, ← pair_same) f in record {
        left = rw (w, now.left) (filled_one (leaves visits s cause) s.subscriptions p (omega arith));
        sent = rw (add-one, e) (and now.sent g);
      }

  -- without a report it is passed too
  pub turn_silent : reports visits s cause p ≡ false → Passed visits s cause start (p + 1) pairs end
  turn_silent e = rw add-one (one_silent all p below e now)

  -- and then the visit comes to the next
  pub next_come : {r : ℕ} {pairs' : List Subscription} {end' : Output} → r ≡ next_place cause (there s p) p
      → Passed visits s cause start (p + 1) pairs' end' → Come visits s cause start r pairs' end'
  next_come {r} e h = record {
    on = λ l. rw e (next_on visits (there s p) cause p (come.on below));
    passed = silent all (p + 1) (min r 256) (omega (arith, next_behind (there s p) cause p)) (omega arith) (λ q k l. next_silent visits s cause p q (come.on below) (omega arith) (omega (arith, e))) h;
  }

-- behind all places the visit is done; of a call that visits none the subscriptions are as they were, and nothing was sent
pub visited : (visits : Bool) (s : State) (cause : Cause) {start end : Output} {pairs : List Subscription} {p : ℕ} → length s.subscriptions ≡ 256
    → Come visits s cause start p pairs end → 256 ≤ p
    → (with_pairs s pairs ≡ (cond visits (visit s.sheet s cause) (record { sent = []; next = s })).next)
    × Sent start (cond visits (visit s.sheet s cause) (record { sent = []; next = s })).sent end
unfolding pair_after pair_sends
visited true s cause {p = p} all come k =
    let e : min p 256 ≡ 256 = omega arith in
    let h = rw e at come.passed in
    (rw h.left (ap (with_pairs s) (filled_all (leaves true s cause) s.subscriptions 256 all)), h.sent)
visited false s cause {start = start} {p = p} all come k =
    let e : min p 256 ≡ 256 = omega arith in
    let h = rw e at come.passed in
    let none : Passed false s cause start 256 s.subscriptions start = silent all 0 256 (omega arith) (omega arith) (λ q k l. refl) (begun false s cause start) in
    (ap (with_pairs s) (h.left ∙ sym none.left), record { is = h.sent.is ∙ sym none.sent.is })
