-- Informs of a request and the reply that counts them.
use Prim.Native.Nat.{ℕ, ◌+◌, ◌<◌, ◌≤◌}
use native.Mathlib.Omega.{arith}
use native.Mathlib.Numerals.{add-one}
use mathlib.Core.Path.{◌≡◌, refl, sym, ◌∙◌}
use mathlib.Core.Bool.{Bool, true, false}
use mathlib.Core.List.{List, [], ◌∷◌, map, map-append}
use lib.ListN.{length, get_or, length-append, length-map}
use Rattle.output.specs.Output.{Output}
use Rattle.message.specs.Message.{Message}
use Rattle.message.specs.Delivery.{to, Sent}
use Rattle.message.proofs.DeliveryLaws.{and, none_sent}
use Rattle.machine.specs.declared.Client.{Client}
use Rattle.machine.specs.Places.{gather, one_if}
use Rattle.machine.specs.State.{no_client, address_of}
use Rattle.machine.specs.Messages.{client_inform, help_inform, count_reply, counted_answer, all_to}
use Rattle.machine.proofs.PlacesLaws.{gather-length}
use Rattle.machine.specs.Requests.{Row, addresses_below}
use Rattle.replies.specs.Asking.{asking}

-- the informs, then the reply with their count
pub counted : {p q r : Output} {c id n : ℕ} {name : List ℕ} (informs : List Message)
    → Sent p (all_to c informs) q → Sent q (to c (count_reply (asking name id) n) ∷ []) r → n ≡ length informs → Sent p (counted_answer c (asking name id) informs) r
unfolding counted_answer
counted informs e f h = and e (rw h at f)

-- the same where as many were counted as there are rows
pub counted_rows : {p q r : Output} {c id n : ℕ} {name : List ℕ} (rows : List Row)
    → Sent p (all_to c (map (help_inform id) (map (λ (w : Row). w.name) rows))) q → Sent q (to c (count_reply (asking name id) n) ∷ []) r → n ≡ length rows
    → Sent p (counted_answer c (asking name id) (map (help_inform id) (map (λ (w : Row). w.name) rows))) r
counted_rows rows e f h = counted _ e f (h ∙ sym (length-map (map (λ (w : Row). w.name) rows) _ ∙ length-map rows _))

one_most : {A : Type 0} (is : Bool) (x : A) → length (one_if is x) ≤ 1
one_most true x = omega arith
one_most false x = omega arith

-- the address of a client that is connected
abbrev address_at : List Client → ℕ → List (List ℕ)
address_at clients k = one_if (get_or clients k no_client).connected (address_of (get_or clients k no_client))

-- the clients below c are told of, and counted
pub record Telling (client id : ℕ) (clients : List Client) (p : Output) (c : ℕ) (q : Output) (count : ℕ) : Type 0 where
  pub inside : c ≤ 8
  pub sent : Sent p (all_to client (map (client_inform id) (addresses_below clients c))) q
  pub are : count ≡ length (addresses_below clients c)

pub telling : (client id : ℕ) (clients : List Client) (p : Output) → Telling client id clients p 0 p 0
unfolding gather
telling client id clients p = record { inside = omega arith; sent = none_sent; are = refl }

module _ {client id : ℕ} {clients : List Client} {p q : Output} {c count : ℕ} (s : Telling client id clients p c q count) where
  pub few : count ≤ c
  few = omega (arith, s.are, gather-length (address_at clients) 1 c (λ k. one_most (get_or clients k no_client).connected (address_of (get_or clients k no_client))))

  pub telling_on : {r : Output} {n : ℕ} → c < 8 → Sent q (all_to client (map (client_inform id) (address_at clients c))) r → n ≡ count + length (address_at clients c)
      → Telling client id clients p (c + 1) r n
  unfolding gather
  telling_on h e k = record { inside = omega arith; sent = rw (add-one, map-append, map-append) (and s.sent e); are = rw (add-one, length-append, k, s.are) }

  pub told : 8 ≤ c → (Sent p (all_to client (map (client_inform id) (addresses_below clients 8))) q) × (count ≡ length (addresses_below clients 8))
  told h = let e : c ≡ 8 = omega (arith, s.inside) in (rw e at s.sent, rw e at s.are)
