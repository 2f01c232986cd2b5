-- The table of requests, and the informs of `help` on it, one after another.
use Rattle.std.specs.Prelude.{Option, None, Some, slice_get}
use Rattle.std.specs.Option.{option_copied}
use Rattle.std.specs.Slice.{IsItemAt}
use Rattle.std.proofs.Common.{Bor}
use Rattle.machine.specs.declared.Request.{Request}
use Prim.Native.Nat.{ℕ, zero, suc, ◌+◌, ◌-◌, ◌≤◌, ◌<◌}
use native.Mathlib.Omega.{arith}
use mathlib.Core.Path.{◌≡◌, refl, sym, ap, ◌∙◌}
use mathlib.Core.Bool.{Bool, true, false, cond, not}
use mathlib.Core.List.{List, [], ◌∷◌, map}
use lib.ListN.{length, drop}
use Rattle.output.specs.Text.{text}
use Rattle.output.specs.Output.{Output}
use Rattle.texts.specs.Table.{word_count, word_of, place_of, below}
use Rattle.texts.proofs.TableLaws.{below_some, below_none, copied_at}
use Rattle.message.specs.Delivery.{Delivery, to, Sent}
use Rattle.message.proofs.DeliveryLaws.{and, none_sent}
use Rattle.machine.specs.Places.{gather, only}
use Rattle.machine.specs.Sheet.{single}
use Rattle.machine.specs.Messages.{all_to, help_inform}
use Rattle.machine.specs.Requests.{Row, requests, request_named, hidden, found, shown_rows}
use Rattle.machine.proofs.WordTables.{request_at, request_at_lem, request_past}

abbrev pub table : List ℕ
table = text "client-list|halt|help|log-level|restart|sensor-list|sensor-sampling|sensor-value|version-list|watchdog"

-- the request at a place of the table
at_place : (rows : List Row) (n : ℕ) → slice_get (map (λ (r : Row). r.request) rows) n ≡ request_at rows n
at_place [] n = refl
at_place (r ∷ rows) zero = refl
at_place (r ∷ rows) (suc n) = at_place rows n

by_place : (name : List ℕ) {k : ℕ} (read : Option (Bor Request)) → k ≡ place_of table name → IsItemAt (map (λ (r : Row). r.request) requests) k read → option_copied read ≡ request_named name
unfolding place_of
by_place name {k} read e h = copied_at (map (λ (r : Row). r.request) requests) k read h ∙ (at_place requests k ∙ (ap (request_at requests) e ∙ sym (request_at_lem name)))

-- place: where the name was found
module _ (name : List ℕ) {place : Option ℕ} (e : place ≡ below 10 (place_of table name)) where
  pub named_none : place ≡ None → request_named name ≡ None
  unfolding place_of
  named_none h = request_at_lem name ∙ request_past requests (place_of table name) (below_none 10 (place_of table name) e h)

  pub named_some : {k : ℕ} → place ≡ Some k → {o : Option Request} (read : Option (Bor Request)) → o ≡ option_copied read → IsItemAt (map (λ (r : Row). r.request) requests) k read → o ≡ request_named name
  named_some {k} h read f at = f ∙ by_place name read (below_some 10 (place_of table name) e k h).0 at

-- under a profile
module _ (profile : ℕ) {o found_at : Option Request} (e : found_at ≡ o) where
  pub found_none : found_at ≡ None → None ≡ found profile o
  found_none h = rw (sym e ∙ h)

  module _ {r : Request} (h : found_at ≡ Some r) where
    pub found_hidden : hidden profile r ≡ true → None ≡ found profile o
    found_hidden t = rw (sym e ∙ h, t)

    pub found_shown : hidden profile r ≡ false → Some r ≡ found profile o
    found_shown t = rw (sym e ∙ h, t)

-- the requests from place `first` on, so many of them
abbrev told_from : ℕ → ℕ → ℕ → ℕ → List Delivery
told_from client id first n = gather (λ i. to client (help_inform id (word_of table (first + i))) ∷ []) n

-- those before place k are told of
pub record Helping (client id most first : ℕ) (p : Output) (k : ℕ) (q : Output) : Type 0 where
  pub from : first ≤ k
  pub inside : k ≤ most
  pub all : most ≡ word_count table
  pub sent : Sent p (told_from client id first (k - first)) q

pub helping : (client id : ℕ) {most first : ℕ} (b : Bool) (p : Output) → most ≡ word_count table → first ≡ cond b 1 0 → Helping client id most first p first p
unfolding gather
helping client id {first = first} b p e f =
    let none : first - first ≡ 0 = omega arith in
    record { from = omega arith; inside = omega (arith, e, f, few b); all = e; sent = rw none none_sent }
  where
    few : (b : Bool) → cond b 1 0 ≤ 1
    few true = omega arith
    few false = omega arith

module _ {client id most first k : ℕ} {p q : Output} (t : Helping client id most first p k q) where
  pub helping_on : k < most → {word : List ℕ} {r : Output} → word ≡ word_of table k → Sent q (to client (help_inform id word) ∷ []) r → Helping client id most first p (k + 1) r
  unfolding gather
  helping_on h e s =
      let next : k + 1 - first ≡ suc (k - first) = omega (arith, t.from) in
      let place : first + (k - first) ≡ k = omega (arith, t.from) in
      record { from = omega (arith, t.from); inside = omega arith; all = t.all; sent = rw (next, place) (and t.sent (rw e at s)) }

  pub helped : (profile : ℕ) → first ≡ cond (single profile) 1 0 → most ≤ k
      → Sent p (all_to client (map (help_inform id) (map (λ (r : Row). r.name) (shown_rows profile)))) q × (k - first ≡ length (shown_rows profile))
  unfolding gather word_of only hidden
  helped profile f h =
      let i = t.inside in
      let a = t.all in
      let e : k ≡ 10 = omega arith in
      go (single profile) (rw (e, f) at t.sent) (rw (e, f))
    where
      go : (b : Bool) → Sent p (told_from client id (cond b 1 0) (10 - cond b 1 0)) q → k - first ≡ 10 - cond b 1 0
          → Sent p (all_to client (map (help_inform id) (map (λ (r : Row). r.name) (cond (not b) requests (drop 1 requests))))) q × (k - first ≡ length (cond (not b) requests (drop 1 requests)))
      go true s n = (s, n)
      go false s n = (s, n)
