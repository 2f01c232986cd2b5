-- A pass over a list of places, one delivery for each.
use Prim.Native.Nat.{ℕ, zero, suc, ◌+◌, ◌≤◌, ◌<◌}
use native.Mathlib.Omega.{arith}
use native.Mathlib.Numerals.{add-one}
use mathlib.Core.Path.{ap, sym, ◌∙◌}
use mathlib.Core.List.{List, [], ◌∷◌, map, map-append}
use lib.ListN.{length, take, get_or}
use lib.Seq.{take-suc, take_all}
use Rattle.output.specs.Output.{Output}
use Rattle.message.specs.Delivery.{Delivery, Sent}
use Rattle.message.proofs.DeliveryLaws.{and, none_sent, as_sent}
use Rattle.machine.specs.Places.{Each}

-- what is said of each place is said of the one at k
pub each_at : (P : ℕ → Type 0) (js : List ℕ) (k : ℕ) → Each P js → k < length js → P (get_or js k 0)
each_at P [] k h l = absurd (omega arith)
each_at P (j ∷ js) zero h l = h.0
each_at P (j ∷ js) (suc k) h l = each_at P js k h.1 (omega arith)

-- the first k places are done
pub record Passed (f : ℕ → Delivery) (js : List ℕ) (p : Output) (k : ℕ) (q : Output) : Type 0 where
  pub inside : k ≤ length js
  pub sent : Sent p (map f (take k js)) q

pub passed_none : (f : ℕ → Delivery) (js : List ℕ) (p : Output) → Passed f js p 0 p
passed_none f js p = record { inside = omega arith; sent = none_sent }

module _ {f : ℕ → Delivery} {js : List ℕ} {p q : Output} {k : ℕ} (s : Passed f js p k q) where
  pub passed_on : {r : Output} → k < length js → Sent q (f (get_or js k 0) ∷ []) r → Passed f js p (k + 1) r
  passed_on h e = record { inside = omega arith; sent = as_sent (and s.sent e) (sym (ap (map f) (ap (λ n. take n js) (add-one k) ∙ take-suc js k 0 h) ∙ map-append f (take k js) (get_or js k 0 ∷ []))) }

  pub passed_all : length js ≤ k → Sent p (map f js) q
  passed_all h = as_sent s.sent (ap (map f) (take_all k js h))
