-- Two states that are alike for one client, whatever the others do: what a visit sends that client, and the states that it leaves.
use Prim.Native.Nat.{ℕ, ◌+◌, ◌*◌, ◌/◌, ◌%◌, ◌<◌}
use native.Mathlib.Omega.{arith}
use mathlib.Core.Path.{◌≡◌, refl, ap, ap₂, sym, ◌∙◌, subst}
use mathlib.Core.Bool.{Bool, true, false, cond, ◌&&◌}
use mathlib.Core.List.{List}
use lib.Dec.{eqb, ltb}
use borrow.Author.Tests.{eqb-true}
use Rattle.message.specs.Message.{Message}
use Rattle.message.specs.Delivery.{Delivery, to}
use Rattle.machine.specs.declared.Client.{Client}
use Rattle.machine.specs.declared.Subscription.{Subscription}
use Rattle.machine.specs.declared.State.{State}
use Rattle.machine.specs.declared.Cause.{Cause}
use Rattle.machine.specs.Places.{one_if, Each}
use Rattle.machine.specs.Sheet.{sensor_of}
use Rattle.machine.specs.State.{present, client_of, pair_at, pair_of}
use Rattle.machine.specs.Messages
use Rattle.machine.specs.Report.{Work, due_at, due, concerns, by_reading, pair_sends, visit, reported}
use Rattle.machine.specs.Others.{AlikeFor}
use Rattle.machine.proofs.PlacesLaws.{each_gather, each_one}
use Rattle.machine.proofs.StateLaws.{pair_visited}
use Rattle.machine.proofs.WatchLaws.{own, told_to, Aside, aside_told, gather_told}

pub alike_sym : {a : ℕ} {s t : State} → AlikeFor a s t → AlikeFor a t s
alike_sym g = record {
  sheet_same = sym g.sheet_same;
  clock_same = sym g.clock_same;
  halted_same = sym g.halted_same;
  readings_same = sym g.readings_same;
  client_same = sym g.client_same;
  pair_same = λ j h. sym (g.pair_same j h);
}

pub alike_trans : {a : ℕ} {s t u : State} → AlikeFor a s t → AlikeFor a t u → AlikeFor a s u
alike_trans g k = record {
  sheet_same = g.sheet_same ∙ k.sheet_same;
  clock_same = g.clock_same ∙ k.clock_same;
  halted_same = g.halted_same ∙ k.halted_same;
  readings_same = g.readings_same ∙ k.readings_same;
  client_same = g.client_same ∙ k.client_same;
  pair_same = λ j h. g.pair_same j h ∙ k.pair_same j h;
}

-- A state that is alike is the same state with another log level, other clients and other subscriptions, in which client a is the same.

abbrev pub beside : State → ℕ → List Client → List Subscription → State
beside s l ks ps = record { sheet = s.sheet; clock = s.clock; halted = s.halted; level = l; readings = s.readings; clients = ks; subscriptions = ps }

pub record Same (a : ℕ) (s : State) (ks : List Client) (ps : List Subscription) : Type 0 where
  pub client : client_of s a ≡ client_of (beside s 0 ks ps) a
  pub pair : (j : ℕ) → j < 32 → pair_of s a j ≡ pair_of (beside s 0 ks ps) a j

pub beside_alike : (a : ℕ) (s : State) (l : ℕ) (ks : List Client) (ps : List Subscription) → Same a s ks ps → AlikeFor a s (beside s l ks ps)
beside_alike a s l ks ps g = record { sheet_same = refl; clock_same = refl; halted_same = refl; readings_same = refl; client_same = g.client; pair_same = g.pair }

pub alike_refl : (a : ℕ) (s : State) → AlikeFor a s s
alike_refl a s = beside_alike a s s.level s.clients s.subscriptions (record { client = refl; pair = λ j h. refl })

pub by_beside : (P : State → Type 0) (a : ℕ) (s t : State) → AlikeFor a s t → ((l : ℕ) (ks : List Client) (ps : List Subscription) → Same a s ks ps → P (beside s l ks ps)) → P t
by_beside P a s t g f = subst P (sym is) (f t.level t.clients t.subscriptions (record { client = g.client_same; pair = g.pair_same }))
  where
    is : t ≡ beside s t.level t.clients t.subscriptions
    is = rw (g.sheet_same, g.clock_same, g.halted_same, g.readings_same)

-- what two calls come to: states that are alike, and the same messages
pub record WorkAlike (a : ℕ) (v w : Work) : Type 0 where
  pub states : AlikeFor a v.next w.next
  pub told : told_to a v.sent ≡ told_to a w.sent

-- Deliveries aside.

-- one in which others show
pub shown : (b o : Bool) → o ≡ false → (b && o) ≡ false
shown true o e = e
shown false o e = refl

-- one to another client
pub away : (b o : Bool) → b ≡ false → (b && o) ≡ false
away b o e = rw e

pub both_aside : (a : ℕ) (xs ys : List Delivery) → Each (Aside a) xs → Each (Aside a) ys → told_to a xs ≡ told_to a ys
both_aside a xs ys h k = aside_told a xs h ∙ sym (aside_told a ys k)

-- a message to several, in which others show
pub where_aside : (a : ℕ) (is : ℕ → Bool) (m : Message) → own m ≡ false → Each (Aside a) (Messages.to_where is m)
unfolding Messages.to_where
where_aside a is m e = each_gather (Aside a) _ 8 (λ c l. each_one (Aside a) (is c) (to c m) (λ t. shown (eqb c a) (own m) e))

-- a message to client c or not: what client a is told depends on the test for itself alone
pub one_told : (a c : ℕ) (m : Message) (x y : Bool) → (eqb c a ≡ true → x ≡ y) → told_to a (one_if x (to c m)) ≡ told_to a (one_if y (to c m))
one_told a c m x y h = go (eqb c a) refl
  where
    go : (b : Bool) → eqb c a ≡ b → told_to a (one_if x (to c m)) ≡ told_to a (one_if y (to c m))
    go true e = ap (λ b. told_to a (one_if b (to c m))) (h e)
    go false e = both_aside a _ _ (each_one (Aside a) x (to c m) (λ t. away (eqb c a) (own m) e)) (each_one (Aside a) y (to c m) (λ t. away (eqb c a) (own m) e))

-- Visits.

module _ (a : ℕ) (ha : a < 8) (s : State) (l : ℕ) (ks : List Client) (ps : List Subscription) (g : Same a s ks ps) where
  abbrev t : State
  t = beside s l ks ps

  due_same : (cause : Cause) (j : ℕ) → j < 32 → due_at s.sheet s cause a j (pair_of s a j) ≡ due_at s.sheet t cause a j (pair_of t a j)
  unfolding due_at
  due_same cause j hj =
      ap₂ (λ (k : Client) p. k.connected && (ltb j s.sheet.count && (concerns cause j && due (by_reading cause) s.clock (sensor_of s.sheet j) (present s j) p))) g.client (g.pair j hj)

  own_place : (p : ℕ) → p / 32 ≡ a → a * 32 + p % 32 ≡ p
  own_place p e = omega arith

  place_told : (cause : Cause) (p : ℕ) → p < 256 → told_to a (pair_sends s.sheet s cause p) ≡ told_to a (pair_sends s.sheet t cause p)
  unfolding pair_sends
  place_told cause p h = one_told a (p / 32) (Messages.report_of s.sheet s (p % 32)) _ _ (λ e. same_due (eqb-true (p / 32) a e))
    where
      same_due : p / 32 ≡ a → due_at s.sheet s cause (p / 32) (p % 32) (pair_at s p) ≡ due_at s.sheet t cause (p / 32) (p % 32) (pair_at t p)
      same_due e = ap₂ (λ c q. due_at s.sheet s cause c (p % 32) (pair_at s q)) e (sym (own_place p e))
          ∙ (due_same cause (p % 32) (omega arith) ∙ ap₂ (λ c q. due_at s.sheet t cause c (p % 32) (pair_at t q)) (sym e) (own_place p e))

  pub visit_alike : (cause : Cause) → WorkAlike a (visit s.sheet s cause) (visit s.sheet t cause)
  visit_alike cause = record {
    states = beside_alike a (visit s.sheet s cause).next l ks (visit s.sheet t cause).next.subscriptions (record {
      client = g.client;
      pair = λ j hj. pair_visited s a j ha hj s.sheet cause
          ∙ (ap₂ (λ b p. cond b (reported s.clock (present s j) p) p) (due_same cause j hj) (g.pair j hj) ∙ sym (pair_visited t a j ha hj s.sheet cause));
    });
    told = gather_told a _ _ 256 (place_told cause);
  }
