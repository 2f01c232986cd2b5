-- Answers of requests that are carried out: the deliveries, under the name and id of the line that asks, and the state.
use Prim.Native.Nat.{ℕ, zero, suc, ◌≤◌, ◌<◌}
use Prim.Native.Char.{code}
use native.Mathlib.Omega.{arith}
use mathlib.Core.Path.{◌≡◌, refl, ap, sym, ◌∙◌}
use mathlib.Core.Bool.{Bool, true, false, not, ◌&&◌}
use mathlib.Core.List.{List, [], ◌∷◌, map}
use lib.Dec.{eqb}
use lib.ListN.{length, take, drop, replicate, length-map}
use borrow.Author.Tests.{ne_eqb}
use Rattle.output.specs.Text.{text}
use Rattle.output.specs.Output.{output}
use Rattle.message.specs.Message.{Message, message}
use Rattle.message.specs.Delivery.{to, Sent}
use Rattle.message.proofs.DeliveryLaws.{and, as_sent}
use Rattle.line.specs.declared.Header.{Header}
use Rattle.line.specs.Argument as lines
use Rattle.machine.specs.declared.Client.{Client}
use Rattle.machine.specs.declared.Subscription.{Subscription}
use Rattle.machine.specs.declared.State.{State}
use Rattle.machine.specs.declared.Answer.{Answer}
use Rattle.machine.specs.declared.Sheet.{Sheet}
use Rattle.machine.specs.Places.{gather, one_if, Each}
use Rattle.machine.specs.State.{no_subscription, connected, with_clients, blank_client, emptied}
use Rattle.machine.specs.Messages.{reply, count_reply, disconnect, counted_answer, all_to, to_where}
use Rattle.machine.specs.Requests.{sends_only, end_connections, help_names, asked_places}
use Rattle.machine.specs.Range.{in_range}
use Rattle.machine.specs.Declined.{sensors_declined}
use Rattle.machine.specs.Machine.{done}
use Rattle.machine.proofs.TestLaws.{cond_not}
use Rattle.machine.proofs.PlacesLaws.{each_weaker}
use Rattle.machine.proofs.RangeLaws.{range_out, sensors_of}
use Rattle.names.specs.declared.Listed.{Listed}
use Rattle.std.specs.Prelude.{Result, Ok, IsOk}
use Rattle.machine.specs.declared.Refusal.{Refusal}
use Rattle.machine.specs.Refusals.{number_in}
use Rattle.names.specs.Scan.{places_of, scanned}
use Rattle.names.proofs.SheetPlaces.{scanned_number, scanned_count, scanned_places, scanned_below}
use Rattle.replies.specs.Asking.{asking, names_told}
use Rattle.replies.proofs.ToldLaws.{counted}
use Rattle.request.specs.Reading.{message_of, IsRead}
use Rattle.request.specs.Effects.{Gives}
use Rattle.request.proofs.ReadLaws.{name_is, id_is, count_is, argument_is}
use Rattle.request.proofs.GivenLaws.{answered_is}
use Rattle.request.proofs.RowLaws.{accepted}

-- what is collected over places that give the same
gather_same : {A : Type 0} (f g : ℕ → List A) (n : ℕ) → ((i : ℕ) → i < n → f i ≡ g i) → gather f n ≡ gather g n
unfolding gather
gather_same f g zero h = refl
gather_same f g (suc n) h = rw (gather_same f g n (λ i k. h i (omega arith)), h n (omega arith))

without : (b : Bool) (c : ℕ) → c < 8 → (b && not (eqb c 8)) ≡ b
without true c h = rw (ne_eqb c 8 (λ e. absurd (omega arith)))
without false c h = refl

-- to all but client 8, which none is
to_every : (is : ℕ → Bool) (m : Message) → to_where (λ c. is c && not (eqb c 8)) m ≡ to_where is m
unfolding to_where
to_every is m =
    gather_same (λ c. one_if (is c && not (eqb c 8)) (to c m)) (λ c. one_if (is c) (to c m)) 8 (λ c h. ap (λ b. one_if b (to c m)) (without (is c) c h))

-- the sensors that a request asks for, as they are listed
pub record Asks (sheet : Sheet) (m : Message) (list : Listed) : Type 0 where
  pub are : places_of list ≡ asked_places sheet m
  pub many : list.count ≡ length (places_of list)
  pub below : Each (λ j. j < 32) (places_of list)

pub few_sensors : (s : State) → in_range s ≡ true → s.sheet.count ≤ 32
few_sensors s h = (sensors_of s (range_out s h)).count_most

-- a list that no row declines
module _ (s : State) (m : Message) {found : Result Listed Refusal} (h : in_range s ≡ true) (z : sensors_declined s.sheet m ≡ 0) (e : found ≡ scanned s.sheet (asked_places s.sheet m)) where
  pub told : IsOk found
  told = accepted found (ap number_in e ∙ (scanned_number s.sheet (few_sensors s h) (asked_places s.sheet m) ∙ z))

  pub asks : {list : Listed} → found ≡ Ok list → Asks s.sheet m list
  asks q =
      let js = asked_places s.sheet m in
      let few = few_sensors s h in
      let are = scanned_places s.sheet few js (sym e ∙ q) in
      record {
        are = are;
        many = scanned_count s.sheet few js (sym e ∙ q) ∙ ap length (sym are);
        below = rw are (each_weaker (λ j. j < s.sheet.count) (λ j. j < 32) (λ j k. omega arith) js (scanned_below s.sheet few js (sym e ∙ q)));
      }

-- the line that asks, and its name as the code takes it
module _ (line : List ℕ) (head : Header) {name : List ℕ} (h : IsRead line head) (n : name ≡ take head.name (drop 1 line)) where
  name_own : name ≡ (message_of line).name
  name_own = n ∙ name_is line head h

  id_own : head.id ≡ (message_of line).id
  id_own = id_is line head h

  own_reply : (args : List (List ℕ)) → message (code "!") name head.id args ≡ reply (message_of line) args
  own_reply args = rw (name_own, id_own)

  counted_own : (c : ℕ) (f : ℕ → List Message) → counted_answer c (asking name head.id) (f head.id) ≡ counted_answer c (message_of line) (f (message_of line).id)
  unfolding counted_answer
  counted_own c f = rw (name_own, id_own)

  -- informs of an id and the reply that counts them
  pub tells : {lent out : List ℕ} {r : Answer} {k : ℕ} {informs : List Message} (s : State) (c : ℕ) (f : ℕ → List Message)
      → Sent (output lent 0) (counted_answer c (asking name head.id) informs) (output out k) → informs ≡ f head.id → r ≡ record { number = 0; written = k; state = s }
      → Gives (done (sends_only s (counted_answer c (message_of line) (f (message_of line).id)))) lent r out
  tells s c f e i a = answered_is a refl refl (as_sent e (ap (counted_answer c (asking name head.id)) i ∙ counted_own c f))

  -- an inform on each sensor that is asked for, and the reply that counts them
  pub tells_asked : {lent mid out : List ℕ} {r : Answer} {at k : ℕ} {list : Listed} {places : List ℕ} (s : State) (c : ℕ) (f : ℕ → ℕ → Message) → Asks s.sheet (message_of line) list
      → places ≡ places_of list → Sent (output lent 0) (all_to c (map (f head.id) places)) (output mid at)
      → Sent (output mid at) (to c (count_reply (asking name head.id) list.count) ∷ []) (output out k) → r ≡ record { number = 0; written = k; state = s }
      → Gives (done (sends_only s (counted_answer c (message_of line) (map (f (message_of line).id) (asked_places s.sheet (message_of line)))))) lent r out
  tells_asked {list = list} {places} s c f q p e g a =
      tells s c (λ id. map (f id) (asked_places s.sheet (message_of line))) (counted (map (f head.id) places) e g (q.many ∙ (ap length (sym p) ∙ sym (length-map places (f head.id))))) (ap (map (f head.id)) (p ∙ q.are)) a

  -- a reply alone
  pub replies : {lent out : List ℕ} {r : Answer} {k : ℕ} (s : State) (c : ℕ) (args : List (List ℕ))
      → Sent (output lent 0) (to c (message (code "!") name head.id args) ∷ []) (output out k) → r ≡ record { number = 0; written = k; state = s }
      → Gives (done (record { sent = to c (reply (message_of line) args) ∷ []; next = s })) lent r out
  replies s c args e a = answered_is a refl refl (as_sent e (ap (λ m. to c m ∷ []) (own_reply args)))

  -- the reply, and `#disconnect` to all; no client is left
  pub ends : {lent mid out : List ℕ} {r : Answer} {at k level : ℕ} {halted : Bool} {none : Client} {unset : Subscription} (s : State) (c : ℕ) (why : List ℕ)
      → Sent (output lent 0) (to c (message (code "!") name head.id (text "ok" ∷ [])) ∷ []) (output mid at)
      → Sent (output mid at) (to_where (λ k. connected s k && not (eqb k 8)) (disconnect why)) (output out k)
      → none ≡ blank_client → unset ≡ no_subscription
      → r ≡ record { number = 0; written = k; state = with_clients (emptied s halted level) (replicate 8 none) (replicate 256 unset) }
      → Gives (done (end_connections s c (message_of line) why halted level)) lent r out
  ends s c why e f b u a =
      answered_is (a ∙ rw (b, u)) refl refl (and (as_sent e (ap (λ m. to c m ∷ []) (own_reply (text "ok" ∷ [])))) (as_sent f (to_every (connected s) (disconnect why))))

-- the requests that `help` tells of
pub help_names_lem : (profile : ℕ) (line : List ℕ) (head : Header) {name : List ℕ} → IsRead line head → name ≡ lines.argument line 0
    → names_told profile (not (eqb head.count 0)) name ≡ help_names profile (message_of line)
unfolding help_names
help_names_lem profile line head h e = rw (e, argument_is line head h 0, count_is line head h) (cond_not (eqb (length (message_of line).args) 0) _ _)
