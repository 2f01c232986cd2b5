-- What a client is told is what it is told by a device that was given that client's calls, readings and ticks alone.
use Prim.Native.Nat.{ℕ, ◌≤◌, ◌<◌}
use native.Mathlib.Omega.{arith}
use mathlib.Core.Path.{◌≡◌, refl, ap, ap₂, sym, ◌∙◌, subst}
use mathlib.Core.Bool.{Bool, true, false, cond, not, ◌&&◌, ◌||◌, true≢false}
use mathlib.Core.List.{List, [], ◌∷◌, ◌++◌, map, map-append, append-nil, reverse, reverse-append}
use mathlib.Mathlib.Data.List.Basic.{map-reverse_aux}
use lib.Dec.{eqb, ltb}
use lib.ListN.{length, replicate, length-replicate}
use borrow.Author.Tests.{eqb-true, ltb-true, ltb-false}
use Rattle.output.specs.Text.{text, same}
use Rattle.output.proofs.TextLaws.{same_true}
use Rattle.message.specs.Message.{line}
use Rattle.message.specs.Delivery.{Delivery}
use Rattle.line.specs.Line.{Parse, malformed, message, parse}
use Rattle.machine.specs.declared.State.{State}
use Rattle.machine.specs.declared.Request.TheVariants.{Halt, Restart}
use Rattle.machine.specs.Places.{only, is_zero}
use Rattle.machine.specs.Range.{in_range}
use Rattle.machine.specs.Opening.{Start}
use Rattle.machine.specs.Declined.{Action, Connect, Disconnect, Tick, Reading, Log, Line, Call, call_of}
use Rattle.machine.specs.Machine.{step}
use Rattle.machine.specs.TwoDevices.{after, returned_zero, packets_of, ends_all, without_end}
use Rattle.machine.specs.Others.{is_shared, shared_in, SharedCall, shared_of, shared_calls, others_end, OneDispatcher, is_named_as, lines_ever, of_sensors, of_others, AlikeFor, asks_end, OthersApart, OthersReach, OthersMet}
use Rattle.machine.proofs.TestLaws.{or_false, or_true}
use Rattle.machine.proofs.PlacesLaws.{each_weaker, only-append, only_within, only_reverse}
use Rattle.machine.proofs.RangeLaws.{range_out}
use Rattle.machine.proofs.AnsweredLaws.{request_is}
use Rattle.machine.proofs.NextLaws.{ends_connections}
use Rattle.machine.proofs.GrantedLaws.{ends_is}
use Rattle.machine.proofs.ListLaws.{sent_packets}
use Rattle.machine.proofs.Sent.{sent_to_clients}
use Rattle.machine.proofs.KeptInRange.{after_in_range}
use Rattle.machine.proofs.WatchLaws.{own, told_to, Aside, aside_told, named, told_ever, ever_none, ever_more, ever_named, ever_told}
use Rattle.machine.proofs.BesideLaws.{alike_refl, alike_sym, alike_trans, by_beside}
use Rattle.machine.proofs.SharedCalls.{step_alike}
use Rattle.machine.proofs.OthersCalls.{step_leaves}

-- "answered `ok`" is accepted
ends_by_number : (start : Start) (h : List Call) (call : Call) → ends_all call.action (packets_of start h call) ≡ (is_zero (step (after start h) call).number && ends_connections call.action)
ends_by_number start h call = ap (ends_all call.action) (sent_packets start 0 h call) ∙ ends_is (after start h) call.action call.lent

asks_end_is : (action : Action) → ends_connections action ≡ asks_end action
asks_end_is (Connect c address) = refl
asks_end_is (Disconnect c) = refl
asks_end_is (Tick t) = refl
asks_end_is (Reading j r) = refl
asks_end_is (Log level logger said) = refl
asks_end_is (Line c line) = sym (ap₂ ◌||◌ (request_is Halt line) (request_is Restart line))

-- The shared calls alone.

-- an output that is too short, or not
unfoldable lent_for : Bool → List ℕ
lent_for true = []
lent_for false = replicate 65536 0

lent_short : (b : Bool) → ltb (length (lent_for b)) 65536 ≡ b
unfolding lent_for
lent_short true = refl
lent_short false = ap (λ n. ltb n 65536) (length-replicate {A = ℕ} 65536 0)

-- shared calls, each with such an output
unfoldable alone : List SharedCall → List Call
alone [] = []
alone (x ∷ xs) = call_of x.action (lent_for x.short) ∷ alone xs

module _ (start : Start) (a : ℕ) (ha : a < 8) where
  -- the device with all calls, and the one with the shared calls alone
  record Follows (h k : List Call) : Type 0 where
    pub states : AlikeFor a (after start h) (after start k)
    pub told : told_ever start a h ≡ told_ever start a k

  shared_step : (call : Call) (h k : List Call) → is_shared a call.action ≡ true → Follows h k → Follows (call ∷ h) (call_of call.action (lent_for (shared_of call).short) ∷ k)
  unfolding after
  shared_step call h k e f = record { states = both.0; told = ever_more start a h call ∙ (ap₂ ◌++◌ f.told both.1 ∙ sym (ever_more start a k other)) }
    where
      other : Call
      other = call_of call.action (lent_for (shared_of call).short)

      Both : State → Type 0
      Both t = AlikeFor a (step (after start h) call).next (step t other).next × (told_to a (step (after start h) call).sent ≡ told_to a (step t other).sent)

      both : Both (after start k)
      both = by_beside (λ t. in_range t ≡ true → Both t) a (after start h) (after start k) f.states
          (λ l ks ps g r. step_alike a ha (after start h) (range_out (after start h) (after_in_range start h)) l ks ps g call.action e call.lent other.lent
          (sym (lent_short (shared_of call).short)) (after_in_range start h) r)
          (after_in_range start k)

  other_step : (call : Call) (h k : List Call) → is_shared a call.action ≡ false → ends_all call.action (packets_of start h call) ≡ false → Follows h k → Follows (call ∷ h) k
  unfolding after
  other_step call h k e z f = record {
    states = alike_trans (alike_sym left.0) f.states;
    told = ever_more start a h call ∙ (ap (λ ms. told_ever start a h ++ ms) left.1 ∙ (append-nil (told_ever start a h) ∙ f.told));
  }
    where
      left : AlikeFor a (after start h) (step (after start h) call).next × (told_to a (step (after start h) call).sent ≡ [])
      left = step_leaves a ha (after start h) call e (sym (ends_by_number start h call) ∙ z)

  follows : (h : List Call) → others_end start a h ≡ false → Follows h (alone (shared_calls a h))
  unfolding others_end only alone
  follows [] z = record { states = alike_refl a (after start []); told = refl }
  follows (call ∷ h) z = go (is_shared a call.action) refl (or_false (not (is_shared a call.action) && ends_all call.action (packets_of start h call)) (others_end start a h) z) (follows h)
    where
      go : (b : Bool) → is_shared a call.action ≡ b → ((not b && ends_all call.action (packets_of start h call)) ≡ false) × (others_end start a h ≡ false)
          → (others_end start a h ≡ false → Follows h (alone (shared_calls a h))) → Follows (call ∷ h) (alone (map shared_of (cond b (call ∷ shared_in a h) (shared_in a h))))
      go true e q ih = shared_step call h (alone (shared_calls a h)) e (ih q.1)
      go false e q ih = other_step call h (alone (shared_calls a h)) e q.0 (ih q.1)

-- Two lists.

shared_reverse : (a : ℕ) (calls : List Call) → shared_calls a (reverse calls) ≡ reverse (shared_calls a calls)
shared_reverse a calls = ap (map shared_of) (only_reverse (λ (call : Call). is_shared a call.action) calls) ∙ map-reverse_aux shared_of (shared_in a calls) []

module _ (start : Start) (a : ℕ) (one two : List Call) (g : OneDispatcher start a one two) where
  -- both meet in the device with the shared calls alone
  same_reverse : shared_calls a (reverse one) ≡ shared_calls a (reverse two)
  same_reverse = shared_reverse a one ∙ (ap reverse g.same_calls ∙ sym (shared_reverse a two))

  same_after : a < 8 → AlikeFor a (after start (reverse one)) (after start (reverse two))
  same_after ha = alike_trans (follows start a ha (reverse one) g.none_ends).states
      (subst (λ xs. AlikeFor a (after start (alone xs)) (after start (reverse two))) (sym same_reverse) (alike_sym (follows start a ha (reverse two) g.none_ends_there).states))

  same_told : a < 8 → told_ever start a (reverse one) ≡ told_ever start a (reverse two)
  same_told ha = (follows start a ha (reverse one) g.none_ends).told
      ∙ (ap (λ xs. told_ever start a (alone xs)) same_reverse ∙ sym (follows start a ha (reverse two) g.none_ends_there).told)

-- a number that is no client's is told nothing
no_client_lem : (start : Start) (a : ℕ) → 8 ≤ a → (h : List Call) → told_ever start a h ≡ []
no_client_lem start a l [] = ever_none start a
no_client_lem start a l (call ∷ h) = ever_more start a h call ∙ ap₂ ◌++◌ (no_client_lem start a l h) (aside_told a (step (after start h) call).sent
    (each_weaker (λ (d : Delivery). d.client < 8) (Aside a) (λ d k. other d.client (own d.message) k (eqb d.client a) refl) (step (after start h) call).sent (sent_to_clients (after start h) call)))
  where
    other : (c : ℕ) (o : Bool) → c < 8 → (b : Bool) → eqb c a ≡ b → (b && o) ≡ false
    other c o k true e = absurd (omega (arith, eqb-true c a e))
    other c o k false e = refl

told_alike : (start : Start) (a : ℕ) (one two : List Call) → OneDispatcher start a one two → told_ever start a (reverse one) ≡ told_ever start a (reverse two)
told_alike start a one two g = go (ltb a 8) refl
  where
    go : (b : Bool) → ltb a 8 ≡ b → told_ever start a (reverse one) ≡ told_ever start a (reverse two)
    go true l = same_told start a one two g (ltb-true a 8 l)
    go false l = no_client_lem start a (ltb-false a 8 l) (reverse one) ∙ sym (no_client_lem start a (ltb-false a 8 l) (reverse two))

-- The assumption met.

accepted_is : (start : Start) (h : List Call) (call : Call) → ends_all call.action (packets_of start h call) ≡ (returned_zero start h call && asks_end call.action)
accepted_is start h call = ends_by_number start h call ∙ ap (λ b. returned_zero start h call && b) (asks_end_is call.action)

module _ (start : Start) (a : ℕ) where
  -- a call more, at the end
  shared_more : (calls : List Call) (call : Call) (b : Bool) → is_shared a call.action ≡ b → shared_calls a (calls ++ (call ∷ [])) ≡ shared_calls a calls ++ cond b (shared_of call ∷ []) []
  unfolding only
  shared_more calls call b e = ap (map shared_of) (only-append (λ (call : Call). is_shared a call.action) calls (call ∷ [])) ∙ (map-append shared_of (shared_in a calls) _ ∙ ap (λ l. shared_calls a calls ++ l) (go b e))
    where
      go : (b : Bool) → is_shared a call.action ≡ b → map shared_of (cond (is_shared a call.action) (call ∷ []) []) ≡ cond b (shared_of call ∷ []) []
      go true e = rw e
      go false e = rw e

  ends_more : (calls : List Call) (call : Call) → (not (is_shared a call.action) && ends_all call.action (packets_of start (reverse calls) call)) ≡ false
      → others_end start a (reverse calls) ≡ false → others_end start a (reverse (calls ++ (call ∷ []))) ≡ false
  unfolding others_end
  ends_more calls call e z = ap (others_end start a) (reverse-append calls (call ∷ [])) ∙ rw (e, z)

  with_shared : (one two : List Call) → OneDispatcher start a one two → (call other : Call) → is_shared a call.action ≡ true → shared_of call ≡ shared_of other
      → OneDispatcher start a (one ++ (call ∷ [])) (two ++ (other ∷ []))
  with_shared one two g call other e q = record {
    same_calls = shared_more one call true e ∙ (ap₂ (λ l x. l ++ (x ∷ [])) g.same_calls q ∙ sym (shared_more two other true there));
    none_ends = ends_more one call (ap (λ b. not b && ends_all call.action (packets_of start (reverse one) call)) e) g.none_ends;
    none_ends_there = ends_more two other (ap (λ b. not b && ends_all other.action (packets_of start (reverse two) other)) there) g.none_ends_there;
  }
    where
      there : is_shared a other.action ≡ true
      there = ap (λ (x : SharedCall). is_shared a x.action) (sym q) ∙ e

  with_other : (one two : List Call) → OneDispatcher start a one two → (call : Call) → is_shared a call.action ≡ false
      → (returned_zero start (reverse one) call && asks_end call.action) ≡ false → OneDispatcher start a (one ++ (call ∷ [])) two
  with_other one two g call e z = record {
    same_calls = shared_more one call false e ∙ (append-nil (shared_calls a one) ∙ g.same_calls);
    none_ends = ends_more one call (rw e (accepted_is start (reverse one) call ∙ z)) g.none_ends;
    none_ends_there = g.none_ends_there;
  }

  -- among shared calls none is another's
  none_other : (h : List Call) → others_end start a (shared_in a h) ≡ false
  unfolding others_end only
  none_other [] = refl
  none_other (call ∷ h) = go (is_shared a call.action) refl (none_other h)
    where
      go : (b : Bool) → is_shared a call.action ≡ b → others_end start a (shared_in a h) ≡ false → others_end start a (cond b (call ∷ shared_in a h) (shared_in a h)) ≡ false
      go true e ih = rw e ih
      go false e ih = ih

  without_others : (calls : List Call) → others_end start a (reverse calls) ≡ false → OneDispatcher start a calls (shared_in a calls)
  without_others calls z = record {
    same_calls = ap (map shared_of) (sym (only_within (λ (call : Call). is_shared a call.action) (λ (call : Call). is_shared a call.action) (λ call e. e) calls));
    none_ends = z;
    none_ends_there = ap (others_end start a) (sym (only_reverse (λ (call : Call). is_shared a call.action) calls)) ∙ none_other (reverse calls);
  }

pub others_met : OthersMet
unfolding others_end
others_met = record {
  accepted = accepted_is;
  fresh = λ start a. record { same_calls = refl; none_ends = refl; none_ends_there = refl };
  shared_call = with_shared;
  others_call = with_other;
  either_way = λ start a one two g. record { same_calls = sym g.same_calls; none_ends = g.none_ends_there; none_ends_there = g.none_ends };
  alone = without_others;
}

-- The claims.

pub others_reach : OthersReach
others_reach = record {
  same_lines = λ start a one two g. ever_told start a (reverse one) ∙ (ap (map line) (told_alike start a one two g) ∙ sym (ever_told start a (reverse two)));
  same_state = λ start a ha one two g. same_after start a one two g ha;
  by_name = λ is start a calls. ever_named start a is (reverse calls);
}

-- in a line on sensors others do not show
sensors_own : (name : List ℕ) → of_sensors name ≡ true → not (of_others name) ≡ true
sensors_own name e = or_true (not (of_others name) ≡ true) (same name (text "sensor-status")) _ e (is (text "sensor-status") refl)
    (λ e. or_true (not (of_others name) ≡ true) (same name (text "sensor-sampling")) _ e (is (text "sensor-sampling") refl)
    (λ e. or_true (not (of_others name) ≡ true) (same name (text "sensor-value")) _ e (is (text "sensor-value") refl) (is (text "sensor-list") refl)))
  where
    is : (word : List ℕ) → not (of_others word) ≡ true → same name word ≡ true → not (of_others name) ≡ true
    is word h e = ap (λ n. not (of_others n)) (same_true name word e) ∙ h

line_own : (p : Parse) → is_named_as of_sensors p ≡ true → is_named_as (λ name. not (of_others name)) p ≡ true
line_own malformed e = absurd (true≢false (sym e))
line_own (message m) e = sensors_own m.name e

pub others_apart : OthersApart
others_apart start a one two g = sym (within one) ∙ (ap (only (named of_sensors)) (others_reach.same_lines start a one two g) ∙ within two)
  where
    within : (calls : List Call) → only (named of_sensors) (only (named (λ name. not (of_others name))) (lines_ever start a (reverse calls))) ≡ only (named of_sensors) (lines_ever start a (reverse calls))
    within calls = only_within (named of_sensors) (named (λ name. not (of_others name))) (λ l e. line_own (parse (without_end l)) e) (lines_ever start a (reverse calls))
