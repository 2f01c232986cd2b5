-- A `halt` or `restart` that is carried out gives each connected client `#disconnect` as its last line.
use Prim.Native.Nat.{ℕ, ◌<◌}
use mathlib.Core.Path.{◌≡◌, refl, ap, sym, ◌∙◌, subst}
use mathlib.Core.Bool.{Bool, true, false, cond, ◌&&◌, ◌||◌, true≢false}
use mathlib.Core.List.{List, [], ◌∷◌, ◌++◌, map, map-append}
use lib.Dec.{eqb}
use lib.ListN.{length, length-map}
use borrow.Author.Tests.{eqb-true}
use Rattle.output.specs.Text.{text, same}
use Rattle.output.proofs.TextLaws.{same_true}
use Rattle.message.specs.Message.{Message, line}
use Rattle.message.specs.Delivery.{to}
use Rattle.machine.specs.declared.State.{State}
use Rattle.machine.specs.declared.Request.{Request}
use Rattle.machine.specs.declared.Request.TheVariants.{Halt, Restart}
use Rattle.machine.specs.Places.{one_if, is_zero}
use Rattle.machine.specs.State.{connected}
use Rattle.machine.specs.Opening.{Start}
use Rattle.machine.specs.Messages.{ok_reply, disconnect, to_where, to_all}
use Rattle.machine.specs.Requests.{Asked, Nothing, NotMessage, Reply, Unknown, Asks, asked, answer}
use Rattle.machine.specs.Declined.{Line, Call, call_of}
use Rattle.machine.specs.Machine.{Effect, line_work, perform, step}
use Rattle.machine.specs.TwoDevices.{after, ends_all, lines_to, lines_of, sent_to}
use Rattle.machine.specs.Cut.{LastLine}
use Rattle.machine.proofs.TestLaws.{or_true, eqb_refl}
use Rattle.machine.proofs.StepLaws.{name_for, names_apart_lem, by_cases}
use Rattle.machine.proofs.HeardLaws.{sent_at_one}
use Rattle.machine.proofs.AnsweredLaws.{asks_for}
use Rattle.machine.proofs.GrantedLaws.{ends_is}
use Rattle.machine.proofs.ListLaws.{sent_packets, at_end_small}
use Rattle.machine.proofs.ArchiveLaws.{lines_packed}
use Rattle.machine.proofs.TellsLaws.{on}
use Rattle.machine.proofs.MomentLaws.{no_connect, more_lines}

-- what a connected client is sent of a message to all
to_all_lem : (s : State) (a : ℕ) → a < 8 → connected s a ≡ true → (m : Message) → sent_to a (to_all s m) ≡ m ∷ []
unfolding to_where sent_to
to_all_lem s a ha on m = sent_at_one a (λ c. one_if (connected s c) (to c m)) 8 a ha others ∙ rw (on, eqb_refl a)
  where
    others : (i : ℕ) → i < 8 → (i ≡ a → ⊥) → sent_to a (one_if (connected s i) (to i m)) ≡ []
    others i l n = go (connected s i) (eqb i a) refl
      where
        go : (b c : Bool) → eqb i a ≡ c → sent_to a (one_if b (to i m)) ≡ []
        go false c e = refl
        go true false e = rw e
        go true true e = absurd (n (eqb-true i a e))

-- messages that end in `#disconnect`, with one reply before it where c is a
abbrev Ends : ℕ → ℕ → List Message → Type 0
Ends a c ms = (why : List ℕ) × ((replies : List Message) × ((ms ≡ replies ++ (disconnect why ∷ [])) × (length replies ≡ cond (eqb c a) 1 0)))

module _ (s : State) (a c : ℕ) (ha : a < 8) (there : connected s a ≡ true) where
  reply_and_all : (m : Message) (why : List ℕ) → Ends a c (sent_to a (to c (ok_reply m []) ∷ to_all s (disconnect why)))
  unfolding sent_to
  reply_and_all m why = go (eqb c a)
    where
      all : sent_to a (to_all s (disconnect why)) ≡ disconnect why ∷ []
      all = to_all_lem s a ha there (disconnect why)

      go : (b : Bool) → (w : List ℕ) × ((replies : List Message) × ((cond b (ok_reply m [] ∷ sent_to a (to_all s (disconnect why))) (sent_to a (to_all s (disconnect why))) ≡ replies ++ (disconnect w ∷ []))
          × (length replies ≡ cond b 1 0)))
      go true = (why, (ok_reply m [] ∷ [], (ap (λ l. ok_reply m [] ∷ l) all, refl)))
      go false = (why, ([], (all, refl)))

  -- a request that ends all connections
  answer_ends : (r : Request) (m : Message) → (same (name_for r) (name_for Halt) || same (name_for r) (name_for Restart)) ≡ true → Ends a c (sent_to a (answer s.sheet s c r m).sent)
  unfolding answer
  answer_ends r m e = or_true (Ends a c (sent_to a (answer s.sheet s c r m).sent)) (same (name_for r) (name_for Halt)) (same (name_for r) (name_for Restart)) e
      (λ q. subst (λ r. Ends a c (sent_to a (answer s.sheet s c r m).sent)) (sym (names_apart_lem r Halt (same_true (name_for r) (name_for Halt) q))) halt)
      (λ q. subst (λ r. Ends a c (sent_to a (answer s.sheet s c r m).sent)) (sym (names_apart_lem r Restart (same_true (name_for r) (name_for Restart) q))) restart)
    where
      halt : Ends a c (sent_to a (answer s.sheet s c Halt m).sent)
      halt = reply_and_all m (text "Device halting.")

      restart : Ends a c (sent_to a (answer s.sheet s c Restart m).sent)
      restart = reply_and_all m (text "Device restarting.")

  line_ends : (w : Asked) → (asks_for Halt w || asks_for Restart w) ≡ true → Ends a c (sent_to a (line_work s.sheet s c w).sent)
  unfolding line_work
  line_ends Nothing e = absurd (true≢false (sym e))
  line_ends NotMessage e = absurd (true≢false (sym e))
  line_ends Reply e = absurd (true≢false (sym e))
  line_ends (Unknown m) e = absurd (true≢false (sym e))
  line_ends (Asks r m) e = answer_ends r m e

-- Over a list of calls.

module _ (start : Start) (a c : ℕ) (said lent : List ℕ) (h : List Call) where
  abbrev call : Call
  call = call_of (Line c said) lent

  sent_ends : a < 8 → connected (after start h) a ≡ true → (is_zero (step (after start h) call).number && (asks_for Halt (asked said) || asks_for Restart (asked said))) ≡ true
      → Ends a c (sent_to a (step (after start h) call).sent)
  unfolding perform
  sent_ends ha there = by_cases (λ (e : Effect). (is_zero e.number && (asks_for Halt (asked said) || asks_for Restart (asked said))) ≡ true → Ends a c (sent_to a e.sent)) (after start h) call
      (λ _ q. line_ends (after start h) a c ha there (asked said) q) (λ n _ q. absurd (true≢false (sym q)))

-- the last line of a file
pub last_line : LastLine
last_line start a c said lent h on-end e = (
  ends.0,
  (
    map line ends.1.0,
    (
      more_lines start a (call start a c said lent h) h (no_connect start a (call start a c said lent h) h refl) ∙ ap (λ l. lines_of start a h ++ l) (
          ap (lines_to a) (sent_packets start a h (call start a c said lent h)) ∙ (lines_packed a _ ∙ (ap (map line) ends.1.1.0 ∙ map-append line ends.1.0 (disconnect ends.0 ∷ [])))
          ),
      length-map ends.1.0 line ∙ ends.1.1.1,
    ),
  ),
)
  where
    ends : Ends a c (sent_to a (step (after start h) (call_of (Line c said) lent)).sent)
    ends = sent_ends start a c said lent h (at_end_small start a h on-end) (on start a h on-end)
        (sym (ap (ends_all (Line c said)) (sent_packets start a h (call_of (Line c said) lent)) ∙ ends_is (after start h) (Line c said) lent) ∙ e)
