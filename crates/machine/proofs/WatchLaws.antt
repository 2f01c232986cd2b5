-- Of what a client is sent, all but the messages in which others show: over deliveries, over places, over the lines of a list of calls.
use Prim.Native.Nat.{ℕ, zero, suc, ◌<◌}
use native.Mathlib.Omega.{arith}
use mathlib.Core.Path.{◌≡◌, refl, ap, ap₂, sym, ◌∙◌}
use mathlib.Core.Bool.{Bool, true, false, cond, not, ◌&&◌, true≢false}
use mathlib.Core.List.{List, [], ◌∷◌, ◌++◌, map, map-append}
use lib.Dec.{eqb}
use Rattle.message.specs.Message.{Message, line}
use Rattle.message.specs.Delivery.{Delivery}
use Rattle.line.specs.Line.{parse, WellFormed}
use Rattle.machine.specs.Places.{gather, only, Each}
use Rattle.machine.specs.Declined.{Call}
use Rattle.machine.specs.Machine.{step}
use Rattle.machine.specs.TwoDevices.{after, sent_to, lines_to, without_end}
use Rattle.machine.specs.Others.{of_others, is_named_as, lines_ever, sent_ever}
use Rattle.machine.proofs.PlacesLaws.{each_append, only-append}
use Rattle.machine.proofs.HeardLaws.{sent-append}
use Rattle.machine.proofs.FileLaws.{line_parses}
use Rattle.machine.proofs.HeardLaws.{each_to}
use Rattle.machine.proofs.ArchiveLaws.{lines_packed}
use Rattle.machine.proofs.ListLaws.{sent_packets}
use Rattle.machine.proofs.Sent.{sent_well_formed}
use Rattle.machine.specs.Opening.{Start}

-- a message in which others do not show
abbrev pub own : Message → Bool
own m = not (of_others m.name)

-- those to client a among deliveries
unfoldable pub told_to : ℕ → List Delivery → List Message
told_to a ds = only own (sent_to a ds)

pub told-append : (a : ℕ) (xs ys : List Delivery) → told_to a (xs ++ ys) ≡ told_to a xs ++ told_to a ys
unfolding told_to
told-append a xs ys = ap (only own) (sent-append a xs ys) ∙ only-append own (sent_to a xs) (sent_to a ys)

pub told_none : (a : ℕ) → told_to a [] ≡ []
unfolding told_to sent_to only
told_none a = refl

-- the same delivery first
pub told_more : (a : ℕ) (d : Delivery) (xs ys : List Delivery) → told_to a xs ≡ told_to a ys → told_to a (d ∷ xs) ≡ told_to a (d ∷ ys)
told_more a d xs ys e = told-append a (d ∷ []) xs ∙ (ap (λ l. told_to a (d ∷ []) ++ l) e ∙ sym (told-append a (d ∷ []) ys))

-- a delivery to another client, or one in which others show
abbrev pub Aside : ℕ → Delivery → Type 0
Aside a d = (eqb d.client a && own d.message) ≡ false

pub aside_told : (a : ℕ) (ds : List Delivery) → Each (Aside a) ds → told_to a ds ≡ []
unfolding told_to sent_to only
aside_told a [] h = refl
aside_told a (d ∷ ds) h = go (eqb d.client a) (own d.message) refl h.0 (aside_told a ds h.1)
  where
    go : (b o : Bool) → own d.message ≡ o → (b && o) ≡ false → only own (sent_to a ds) ≡ [] → only own (cond b (d.message ∷ sent_to a ds) (sent_to a ds)) ≡ []
    go true true p q ih = absurd (true≢false q)
    go true false p q ih = rw p ih
    go false o p q ih = ih

pub gather_told : (a : ℕ) (f g : ℕ → List Delivery) (n : ℕ) → ((i : ℕ) → i < n → told_to a (f i) ≡ told_to a (g i)) → told_to a (gather f n) ≡ told_to a (gather g n)
unfolding gather
gather_told a f g zero h = refl
gather_told a f g (suc n) h = told-append a (gather f n) (f n) ∙ (ap₂ ◌++◌ (gather_told a f g n (λ i k. h i (omega arith))) (h n (omega arith)) ∙ sym (told-append a (gather g n) (g n)))

-- Lines.

-- one whose message has a name that passes the test
abbrev pub named : (List ℕ → Bool) → List ℕ → Bool
named is l = is_named_as is (parse (without_end l))

-- the lines of messages by the messages
only_lines : (is : List ℕ → Bool) (ms : List Message) → Each WellFormed ms → only (named is) (map line ms) ≡ map line (only (λ (m : Message). is m.name) ms)
unfolding only
only_lines is [] w = refl
only_lines is (m ∷ ms) w = ap (λ p. cond (is_named_as is p) (line m ∷ only (named is) (map line ms)) (only (named is) (map line ms))) (line_parses m w.0) ∙ go (is m.name) (only_lines is ms w.1)
  where
    told : List Message
    told = only (λ (m : Message). is m.name) ms

    go : (b : Bool) → only (named is) (map line ms) ≡ map line told → cond b (line m ∷ only (named is) (map line ms)) (only (named is) (map line ms)) ≡ map line (cond b (m ∷ told) told)
    go true h = ap (λ t. line m ∷ t) h
    go false h = h

module _ (start : Start) (a : ℕ) where
  ever_well_formed : (h : List Call) → Each WellFormed (sent_ever start a h)
  unfolding sent_ever
  ever_well_formed [] = tt
  ever_well_formed (call ∷ h) = each_append WellFormed (sent_ever start a h) _ (ever_well_formed h) (each_to WellFormed a (step (after start h) call).sent (sent_well_formed (after start h) call))

  ever_lines : (h : List Call) → lines_ever start a h ≡ map line (sent_ever start a h)
  unfolding lines_ever sent_ever
  ever_lines [] = refl
  ever_lines (call ∷ h) = ap₂ ◌++◌ (ever_lines h) (ap (lines_to a) (sent_packets start a h call) ∙ lines_packed a (step (after start h) call).sent) ∙ sym (map-append line (sent_ever start a h) _)

  pub ever_named : (is : List ℕ → Bool) (h : List Call) → only (named is) (lines_ever start a h) ≡ map line (only (λ (m : Message). is m.name) (sent_ever start a h))
  ever_named is h = ap (only (named is)) (ever_lines h) ∙ only_lines is (sent_ever start a h) (ever_well_formed h)

  -- what client a is told over a list of calls
  unfoldable pub told_ever : List Call → List Message
  told_ever h = only own (sent_ever start a h)

  pub ever_none : told_ever [] ≡ []
  unfolding told_ever sent_ever only
  ever_none = refl

  pub ever_more : (h : List Call) (call : Call) → told_ever (call ∷ h) ≡ told_ever h ++ told_to a (step (after start h) call).sent
  unfolding told_ever sent_ever told_to
  ever_more h call = only-append own (sent_ever start a h) (sent_to a (step (after start h) call).sent)

  pub ever_told : (h : List Call) → only (named (λ name. not (of_others name))) (lines_ever start a h) ≡ map line (told_ever h)
  unfolding told_ever
  ever_told h = ever_named (λ name. not (of_others name)) h
