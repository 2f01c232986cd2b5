-- Clients are served one after another, lower numbers first.
use Prim.Native.Nat.{ℕ, ◌+◌, ◌<◌, ◌≤◌}
use native.Mathlib.Omega.{arith}
use native.Mathlib.Numerals.{add-one}
use mathlib.Core.Path.{◌≡◌}
use mathlib.Core.Bool.{Bool, true, false}
use mathlib.Core.List.{[], ◌∷◌}
use Rattle.output.specs.Output.{Output}
use Rattle.message.specs.Message.{Message}
use Rattle.message.specs.Delivery.{to, Sent}
use Rattle.message.proofs.DeliveryLaws.{and, none_sent}
use Rattle.machine.specs.Places.{gather, one_if}
use Rattle.machine.specs.Messages.{to_where}

-- the clients below c have what they get
pub record Serving (is : ℕ → Bool) (m : Message) (p : Output) (c : ℕ) (q : Output) : Type 0 where
  pub inside : c ≤ 8
  pub sent : Sent p (gather (λ k. one_if (is k) (to k m)) c) q

pub serving : (is : ℕ → Bool) (m : Message) (p : Output) → Serving is m p 0 p
unfolding gather
serving is m p = record { inside = omega arith; sent = none_sent }

module _ {is : ℕ → Bool} {m : Message} {p q : Output} {c : ℕ} (s : Serving is m p c q) where
  serving_on : {r : Output} → c < 8 → Sent q (one_if (is c) (to c m)) r → Serving is m p (c + 1) r
  unfolding gather
  serving_on h e = record { inside = omega arith; sent = rw add-one (and s.sent e) }

  -- client c gets it
  pub serving_told : {r : Output} → c < 8 → is c ≡ true → Sent q (to c m ∷ []) r → Serving is m p (c + 1) r
  serving_told h t e = serving_on h (rw t e)

  -- client c gets nothing
  pub serving_passed : c < 8 → is c ≡ false → Serving is m p (c + 1) q
  serving_passed h t = serving_on h (rw t none_sent)

  pub served : 8 ≤ c → Sent p (to_where is m) q
  unfolding to_where
  served h = let e : c ≡ 8 = omega (arith, s.inside) in rw e at s.sent
