-- A strategy that is set for the sensors at places, one after another.
use Prim.Native.Nat.{ℕ, ◌+◌, ◌*◌, ◌/◌, ◌%◌, ◌≤◌, ◌<◌}
use native.Mathlib.Omega.{arith}
use mathlib.Core.Path.{◌≡◌, refl, ap, sym, ◌∙◌}
use mathlib.Core.Bool.{Bool, true, false, cond, ◌&&◌, ◌||◌, and-false, or-false}
use mathlib.Core.List.{List, []}
use lib.Dec.{eqb}
use lib.ListN.{length, take, get_or, set, length-set}
use lib.Seq.{take_all, get_or-set_same, get_or-set_other, ext_get_or}
use borrow.Author.Tests.{eqb-true, eqb-false, ne_eqb}
use Rattle.value.specs.declared.Sample.{Sample}
use Rattle.machine.specs.declared.Strategy.{Strategy}
use Rattle.machine.specs.declared.Subscription.{Subscription}
use Rattle.machine.specs.declared.State.{State}
use Rattle.machine.specs.Places.{tabulate, any, has}
use Rattle.machine.specs.State.{no_subscription, present, pair_at, with_pairs}
use Rattle.machine.specs.Range.{is_none}
use Rattle.machine.specs.Requests.{sampled, sampled_pairs}
use Rattle.machine.proofs.PlacesLaws.{length-tabulate, get_or-tabulate}
use Rattle.machine.proofs.AnyLaws.{any_more}
use Rattle.machine.proofs.TestLaws.{or_in, eqb_refl}

-- a list is a table that says what stands at each of its places
by_place : {A : Type 0} (l : List A) (f : ℕ → A) (n : ℕ) (d : A) → length l ≡ n → ((p : ℕ) → p < n → get_or l p d ≡ f p) → l ≡ tabulate f n
by_place l f n d e h =
    ext_get_or d l (tabulate f n) (e ∙ sym (length-tabulate f n))
    (λ p m. h p (omega arith) ∙ sym (get_or-tabulate f n p d (omega arith)))

-- set again, a strategy leaves a pair as it is
sampled_again : (clock : ℕ) (x : Sample) (st : Strategy) (p : Subscription) → sampled clock x st (sampled clock x st p) ≡ sampled clock x st p
unfolding sampled
sampled_again clock x st p = go (is_none st)
  where
    kept : Subscription → Subscription
    kept q = record { strategy = st; reported = q.reported; sample = q.sample; time = q.time }

    told : Subscription
    told = record { strategy = st; reported = true; sample = x; time = clock }

    go : (b : Bool) → cond b (kept (cond b (kept p) told)) told ≡ cond b (kept p) told
    go true = refl
    go false = refl

-- set or not before, it is set then
set_then : (clock : ℕ) (x : Sample) (st : Strategy) (p : Subscription) (b : Bool) → sampled clock x st (cond b (sampled clock x st p) p) ≡ sampled clock x st p
set_then clock x st p true = sampled_again clock x st p
set_then clock x st p false = refl

module _ (s : State) (c : ℕ) (js : List ℕ) (st : Strategy) where
  -- the first k places are set
  pub record SetTo (k : ℕ) (t : State) : Type 0 where
    pub inside : k ≤ length js
    pub is : t ≡ with_pairs s (sampled_pairs s c (take k js) st)

  -- the pair at p, set where the test holds
  abbrev set_if : Bool → ℕ → Subscription
  set_if b p = cond b (sampled s.clock (present s (p % 32)) st (pair_at s p)) (pair_at s p)

  pairs_none : length s.subscriptions ≡ 256 → s.subscriptions ≡ sampled_pairs s c [] st
  unfolding sampled_pairs has any
  pairs_none e = by_place s.subscriptions (λ p. set_if (eqb (p / 32) c && false) p) 256 no_subscription e (λ p h. ap (λ b. set_if b p) (sym (and-false (eqb (p / 32) c))))

  pub set-none : length s.subscriptions ≡ 256 → SetTo 0 s
  set-none e = record { inside = omega arith; is = ap (with_pairs s) (pairs_none e) }

  pub set_all : {k : ℕ} {t : State} → SetTo k t → length js ≤ k → t ≡ with_pairs s (sampled_pairs s c js st)
  set_all {k} z h = z.is ∙ ap (λ l. with_pairs s (sampled_pairs s c l st)) (take_all k js h)

  module _ (k : ℕ) (h : k < length js) (client : c < 8) (place : get_or js k 0 < 32) where
    abbrev here : ℕ
    here = c * 32 + get_or js k 0

    -- the places that are set, with one more
    more : (p : ℕ) → has p (take (k + 1) js) ≡ (has p (take k js) || eqb p (get_or js k 0))
    unfolding has
    more p = any_more (eqb p) js k 0 h

    -- whether a pair is set, and whether it then is
    abbrev is_set : ℕ → Bool
    is_set p = eqb (p / 32) c && has (p % 32) (take k js)

    abbrev then_set : ℕ → Bool
    then_set p = eqb (p / 32) c && has (p % 32) (take (k + 1) js)

    sensor_here : here % 32 ≡ get_or js k 0
    sensor_here = omega arith

    set_here : then_set here ≡ true
    set_here =
        let q : here / 32 ≡ c = omega arith in
        rw (q, sensor_here, eqb_refl c, more (get_or js k 0)) (or_in (has (get_or js k 0) (take k js)) _ (eqb_refl (get_or js k 0)))

    set_else : (p : ℕ) → (p ≡ here → ⊥) → is_set p ≡ then_set p
    set_else p n = rw (more (p % 32)) (go (eqb (p / 32) c) refl)
      where
        go : (b : Bool) → eqb (p / 32) c ≡ b → (b && has (p % 32) (take k js)) ≡ (b && (has (p % 32) (take k js) || eqb (p % 32) (get_or js k 0)))
        go true e = rw (ne_eqb (p % 32) (get_or js k 0) (λ q. n (omega (arith, eqb-true (p / 32) c e)))) (sym (or-false (has (p % 32) (take k js))))
        go false e = refl

    abbrev old : List Subscription
    old = tabulate (λ p. set_if (is_set p) p) 256

    abbrev new : Subscription
    new = sampled s.clock (present s (get_or js k 0)) st (get_or old here no_subscription)

    old_at : (p : ℕ) → p < 256 → get_or old p no_subscription ≡ set_if (is_set p) p
    old_at p l = get_or-tabulate (λ p. set_if (is_set p) p) 256 p no_subscription l

    old_many : length old ≡ 256
    old_many = length-tabulate (λ p. set_if (is_set p) p) 256

    new_is : new ≡ set_if (then_set here) here
    new_is =
        ap (sampled s.clock (present s (get_or js k 0)) st) (old_at here (omega arith))
        ∙ ap (λ n. sampled s.clock (present s n) st (set_if (is_set here) here)) (sym sensor_here)
        ∙ set_then s.clock (present s (here % 32)) st (pair_at s here) (is_set here)
        ∙ ap (λ b. set_if b here) (sym set_here)

    pairs_on : set old here new ≡ tabulate (λ p. set_if (then_set p) p) 256
    pairs_on = by_place (set old here new) (λ p. set_if (then_set p) p) 256 no_subscription (length-set old here new ∙ old_many) (λ p l. go p l (eqb p here) refl)
      where
        go : (p : ℕ) → p < 256 → (b : Bool) → eqb p here ≡ b → get_or (set old here new) p no_subscription ≡ set_if (then_set p) p
        go p l true e = rw (eqb-true p here e) (get_or-set_same old here new no_subscription (omega (arith, old_many)) ∙ new_is)
        go p l false e = get_or-set_other old here p new no_subscription (eqb-false p here e) ∙ (old_at p l ∙ ap (λ b. set_if b p) (set_else p (eqb-false p here e)))

    pub set_on : {t : State} {x : Subscription} → SetTo k t → x ≡ sampled t.clock (present t (get_or js k 0)) st (pair_at t here) → SetTo (k + 1) (with_pairs t (set t.subscriptions here x))
    unfolding sampled_pairs
    set_on z e = record { inside = omega arith; is = rw (e, z.is) (ap (with_pairs s) pairs_on) }
