-- The subscription of a client to a sensor, after each way of writing the state anew.
use Prim.Native.Nat.{ℕ, ◌+◌, ◌*◌, ◌/◌, ◌%◌, ◌<◌}
use native.Mathlib.Omega.{arith}
use mathlib.Core.Path.{◌≡◌, refl, ap, ◌∙◌, sym}
use mathlib.Core.Bool.{true, false, cond, ◌&&◌, true≢false, Bool}
use mathlib.Core.List.{List}
use lib.Dec.{eqb, ltb}
use lib.ListN.{get_or, replicate}
use borrow.Author.Tests.{ltb-true}
use Rattle.machine.specs.declared.Strategy.{Strategy}
use Rattle.machine.specs.declared.Client.{Client}
use Rattle.machine.specs.declared.Subscription.{Subscription}
use Rattle.machine.specs.declared.Sheet.{Sheet}
use Rattle.machine.specs.declared.State.{State}
use Rattle.machine.specs.declared.Cause.{Cause}
use Rattle.machine.specs.declared.Stored.{Stored}
use Rattle.machine.specs.Places.{tabulate, has}
use Rattle.machine.specs.State.{client_of, connected, pair_of, present, stored_of, no_subscription, no_stored, no_client, blank_client, with_client, with_reading}
use Rattle.machine.specs.Report.{due_at, pair_after, reported}
use Rattle.machine.specs.Requests.{sampled, sampled_pairs}
use Rattle.machine.proofs.TestLaws.{and_true, cond_true, cond_false, cond_ap, eqb_sym}
use Rattle.machine.proofs.PlacesLaws.{get_or-tabulate, replicate-either}

pub place_client : (a j : ℕ) → j < 32 → (a * 32 + j) / 32 ≡ a
place_client a j h = omega arith

pub place_sensor : (a j : ℕ) → j < 32 → (a * 32 + j) % 32 ≡ j
place_sensor a j h = omega arith

module _ (s : State) (a j : ℕ) (ha : a < 8) (hj : j < 32) where
  at_pair : (f : ℕ → Subscription) → get_or (tabulate f 256) (a * 32 + j) no_subscription ≡ f (a * 32 + j)
  at_pair f = get_or-tabulate f 256 (a * 32 + j) no_subscription (omega arith)

  -- after a visit
  pub pair_visited : (sheet : Sheet) (cause : Cause) → get_or (tabulate (pair_after sheet s cause) 256) (a * 32 + j) no_subscription
      ≡ cond (due_at sheet s cause a j (pair_of s a j)) (reported s.clock (present s j) (pair_of s a j)) (pair_of s a j)
  unfolding pair_after
  pair_visited sheet cause = at_pair (pair_after sheet s cause) ∙ rw (place_client a j hj, place_sensor a j hj)

  -- after a sampling
  pub pair_sampled : (c : ℕ) (js : List ℕ) (st : Strategy) → get_or (sampled_pairs s c js st) (a * 32 + j) no_subscription
      ≡ cond (eqb a c && has j js) (sampled s.clock (present s j) st (pair_of s a j)) (pair_of s a j)
  unfolding sampled_pairs
  pair_sampled c js st = at_pair _ ∙ rw (place_client a j hj, place_sensor a j hj)

  -- after a connect or a disconnect
  pub pair_of_client : (c : ℕ) (k : Client) → pair_of (with_client s c k) a j ≡ cond (eqb a c) no_subscription (pair_of s a j)
  unfolding with_client
  pair_of_client c k = at_pair _ ∙ rw (place_client a j hj)

pub client_after : (s : State) (c a : ℕ) (k : Client) → a < 8 → client_of (with_client s c k) a ≡ cond (eqb a c) k (client_of s a)
unfolding with_client
client_after s c a k ha = get_or-tabulate _ 8 a no_client ha

pub stored_after : (s : State) (j i : ℕ) (x : Stored) → i < 32 → stored_of (with_reading s j x) i ≡ cond (eqb i j) x (stored_of s i)
unfolding with_reading
stored_after s j i x hi = get_or-tabulate _ 32 i no_stored hi

pub none_connected : (a : ℕ) → (get_or (replicate 8 blank_client) a no_client).connected ≡ false
none_connected a = replicate-either (λ (k : Client). k.connected ≡ false) 8 a blank_client no_client refl refl

-- a pair that reports is one of a sensor on the sheet
pub due_below : (sheet : Sheet) (s : State) (cause : Cause) (c j : ℕ) (p : Subscription) → due_at sheet s cause c j p ≡ true → j < sheet.count
unfolding due_at
due_below sheet s cause c j p h = ltb-true j sheet.count (and_true (ltb j sheet.count) _ (and_true (connected s c) _ h).1).0

module _ (s : State) (a : ℕ) (ha : a < 8) where
  -- whether a client is connected after client c's place was written anew
  pub client_connected_lem : (c : ℕ) (k : Client) → connected (with_client s c k) a ≡ cond (eqb c a) k.connected (connected s a)
  client_connected_lem c k = ap (λ (k : Client). k.connected) (client_after s c a k ha) ∙ (cond_ap (λ (k : Client). k.connected) (eqb a c) k (client_of s a) ∙ ap (λ b. cond b k.connected (connected s a)) (eqb_sym a c))

  own_client : (c : ℕ) (k : Client) → eqb c a ≡ true → connected (with_client s c k) a ≡ k.connected
  own_client c k e = client_connected_lem c k ∙ cond_true (eqb c a) k.connected (connected s a) e

  pub other_client : (c : ℕ) (k : Client) → eqb c a ≡ false → connected (with_client s c k) a ≡ connected s a
  other_client c k e = client_connected_lem c k ∙ cond_false (eqb c a) k.connected (connected s a) e

  -- a client that is connected after a disconnect is another one
  pub still_connected : (c : ℕ) → connected (with_client s c blank_client) a ≡ true → eqb c a ≡ false
  still_connected c on = go (eqb c a) refl
    where
      go : (b : Bool) → eqb c a ≡ b → b ≡ false
      go true e = absurd (true≢false (sym on ∙ own_client c blank_client e))
      go false e = refl

pub other_pair : (s : State) (a j : ℕ) → a < 8 → j < 32 → (c : ℕ) (k : Client) → eqb c a ≡ false → pair_of (with_client s c k) a j ≡ pair_of s a j
other_pair s a j ha hj c k e = pair_of_client s a j ha hj c k ∙ cond_false (eqb a c) no_subscription (pair_of s a j) (eqb_sym a c ∙ e)
