-- What a line comes to: by what it asks, and by the row that declines it.
use Prim.Native.Nat.{ℕ, zero, suc, ◌≤◌, ◌<◌}
use Prim.Native.Char.{code}
use native.Mathlib.Omega.{arith}
use mathlib.Core.Path.{◌≡◌, refl, sym, ◌∙◌, ap}
use mathlib.Core.Bool.{Bool, true, false, cond, not, ◌||◌}
use mathlib.Core.List.{List, [], ◌∷◌}
use Rattle.std.specs.Prelude.{Option, None, Some}
use lib.Dec.{ltb}
use lib.ListN.{length}
use borrow.Author.Tests.{not-false, ne_eqb, ltb-false, le-ltb}
use Rattle.message.specs.Message.{Message}
use Rattle.line.specs.declared.Header.{Header}
use Rattle.line.specs.Line.{Parse, malformed, message, parse, blank_line}
use Rattle.line.specs.Answer.{answer as parsed}
use Rattle.machine.specs.declared.Sheet.{Sheet}
use Rattle.machine.specs.declared.State.{State}
use Rattle.machine.specs.declared.Answer.{Answer}
use Rattle.machine.specs.declared.Request.{Request}
use Rattle.machine.specs.Sheet.{single, last_client}
use Rattle.machine.specs.State.{connected}
use Rattle.machine.specs.Range.{in_range}
use Rattle.machine.specs.Messages.{refusal_text}
use Rattle.machine.specs.Requests.{Asks, request_named, hidden, found, asked_for, asked_by, asked, sends_only, answer}
use Rattle.machine.specs.Declined.{Line, call_of, above_last, client_declined, count_fits, arguments_declined, request_declined, line_declined, line_refusal, action_declined, declined, refusal}
use Rattle.machine.specs.Machine.{done, line_work, perform, outcome, step}
use Rattle.machine.proofs.TestLaws.{passed, cond_either}
use Rattle.machine.proofs.StepLaws.{last_below}
use Rattle.machine.proofs.LineNumbers.{line_number}
use Rattle.declining.proofs.RowsLaws.{Row, row, rows_or, row_declines, row_each, rows_pass, rows_rest}
use Rattle.declining.proofs.AnswerLaws.{rows_then, number_of, Answers, answers}
use Rattle.request.specs.Reading.{message_of, IsRead}
use Rattle.request.proofs.ReadLaws.{message_is}
use Rattle.request.proofs.GivenLaws.{as_given}
use Rattle.request.specs.Effects.{line_outcome, line_effect, refused_with, complained, Gives}

-- a request that is not found is hidden
hides : (b : Bool) (r : Request) → cond b None (Some r) ≡ None → b ≡ true
hides true r e = refl
hides false r e = absurd (let z : ◌≡◌ {A = ℕ} 0 1 = cc in omega arith)

module _ (s : State) (c : ℕ) where
  -- a blank line
  pub blank_effect : (line : List ℕ) → blank_line line ≡ true → line_effect s c (asked line) ≡ done (sends_only s [])
  unfolding line_effect line_outcome line_declined line_work asked
  blank_effect line e = rw e

  -- another
  pub written_effect : (line : List ℕ) → blank_line line ≡ false → line_effect s c (asked line) ≡ line_effect s c (asked_by (parse line))
  unfolding asked
  written_effect line e = rw e

  -- a line that was read comes to what its message does
  pub read_effect : (line : List ℕ) {head : Header} → IsRead line head → line_effect s c (asked_by (parse line)) ≡ line_effect s c (asked_by (message (message_of line)))
  read_effect line h = ap (λ (p : Parse). line_effect s c (asked_by p)) (message_is line _ h)

  -- a line that is no message
  pub malformed_effect : line_effect s c (asked_by malformed) ≡ complained s c 12 (refusal_text 12)
  unfolding line_effect line_outcome line_declined line_refusal
  malformed_effect = refl

  module _ (m : Message) where
    pub inform_effect : m.kind ≡ code "#" → line_effect s c (asked_by (message m)) ≡ done (sends_only s [])
    unfolding line_effect line_outcome line_declined line_work
    inform_effect e = rw e

    pub reply_effect : m.kind ≡ code "!" → line_effect s c (asked_by (message m)) ≡ complained s c 13 (refusal_text 13)
    unfolding line_effect line_outcome line_declined line_refusal
    reply_effect e = rw e

    pub request_effect_lem : (m.kind ≡ code "#" → ⊥) → (m.kind ≡ code "!" → ⊥) → line_effect s c (asked_by (message m)) ≡ line_effect s c (asked_for (request_named m.name) m)
    request_effect_lem f g = rw (ne_eqb m.kind (code "#") f, ne_eqb m.kind (code "!") g)

    -- a request that the table, or the profile, does not have
    pub unknown_effect : found s.sheet.profile (request_named m.name) ≡ None → line_effect s c (asked_for (request_named m.name) m) ≡ refused_with s c m 14
    unfolding line_effect line_outcome line_declined line_refusal
    unknown_effect e = go (request_named m.name) e
      where
        go : (o : Option Request) → found s.sheet.profile o ≡ None → line_effect s c (asked_for o m) ≡ refused_with s c m 14
        go None e = refl
        go (Some r) e = rw (hides (hidden s.sheet.profile r) r e)

    -- one that it has
    module _ (r : Request) (e : request_named m.name ≡ Some r) where
      pub declined_effect : {n : ℕ} → n ≡ line_declined s.sheet (Asks r m) → (n ≡ 0 → ⊥) → line_effect s c (asked_for (request_named m.name) m) ≡ refused_with s c m n
      unfolding line_effect line_outcome line_refusal
      declined_effect {n} q h = rw (e, ← q) (go n h)
        where
          go : (n : ℕ) → (n ≡ 0 → ⊥) → line_outcome s c (Asks r m) n ≡ refused_with s c m n
          go zero h = absurd (h refl)
          go (suc n) h = refl

      pub accepted_effect : line_declined s.sheet (Asks r m) ≡ 0 → line_effect s c (asked_for (request_named m.name) m) ≡ done (answer s.sheet s c r m)
      unfolding line_effect line_outcome line_work
      accepted_effect q = rw (e, q)

-- What the code's answers say of a name and of a line.

pub known_is : (profile : ℕ) (o : Option Request) (r : Request) → found profile o ≡ Some r → (o ≡ Some r) × (hidden profile r ≡ false)
known_is profile None r e = absurd (let z : ◌≡◌ {A = ℕ} 0 1 = cc in omega arith)
known_is profile (Some q) r e = go (hidden profile q) refl e
  where
    go : (b : Bool) → hidden profile q ≡ b → cond b None (Some q) ≡ Some r → (Some q ≡ Some r) × (hidden profile r ≡ false)
    go true h f = absurd (let z : ◌≡◌ {A = ℕ} 0 1 = cc in omega arith)
    go false h f = let same : q ≡ r = cc in (ap Some same, rw (← same) h)

-- the rows from 15 on decide of a request that the profile has
pub shown_row : (sheet : Sheet) (r : Request) (m : Message) → hidden sheet.profile r ≡ false → request_declined sheet r m ≡ line_declined sheet (Asks r m)
unfolding line_declined
shown_row sheet r m h = rw h

pub malformed_is : (p : Parse) → parsed p ≡ None → p ≡ malformed
malformed_is malformed e = refl
malformed_is (message m) e = absurd (let z : ◌≡◌ {A = ℕ} 0 1 = cc in omega arith)

-- a request that no row declines
pub arguments_fit : (sheet : Sheet) (r : Request) (m : Message) → request_declined sheet r m ≡ 0 → arguments_declined sheet r m ≡ 0
arguments_fit sheet r m e = (passed (not (count_fits r (length m.args))) 15 (arguments_declined sheet r m) (omega arith) e).1

-- a number that sends nothing
abbrev Silent : ℕ → Type 0
Silent n = (ltb n 12 || ltb 23 n) ≡ true

-- Rows 1, 2, 3, 5 (or 32) and 6, before the line's own.

abbrev before : State → ℕ → List ℕ → List Row
before s c lent = row (not (in_range s)) 1 ∷ row (ltb (length lent) 65536) 2 ∷ row s.halted 3 ∷ row (ltb (last_client s.sheet.profile) c) (above_last s.sheet.profile) ∷ row (not (connected s c)) 6 ∷ []

module _ (s : State) (c : ℕ) (line lent : List ℕ) {good refused : Bool} {own n : ℕ}
    (g : good ≡ in_range s) (f : refused ≡ not (connected s c)) (o : own ≡ client_declined s.sheet.profile refused c 0) (e : n ≡ rows_then good s lent own) where
  row_numbers : n ≡ rows_or (before s c lent) 0
  unfolding client_declined
  row_numbers = e ∙ rw (g, o, f)

  -- the call is declined, and sends nothing
  pub declines : (n ≡ 0 → ⊥) → (number_of s (Line c line) lent ≡ n) × (refusal s n (Line c line) ≡ [])
  unfolding declined action_declined client_declined refusal
  declines h =
      let quiet = row_each Silent (before s c lent) refl (refl, (refl, (refl, (cond_either Silent (single s.sheet.profile) 32 5 refl refl, (refl, tt))))) in
      (sym (row_declines (before s c lent) (line_declined s.sheet (asked line)) row_numbers h), rw (ap (λ k. ltb k 12 || ltb 23 k) row_numbers ∙ quiet))

  -- the line's own rows decide
  pub passes : n ≡ 0 → (number_of s (Line c line) lent ≡ line_declined s.sheet (asked line)) × (in_range s ≡ true) × (65536 ≤ length lent) × (c < 8)
  unfolding declined action_declined client_declined
  passes h =
      let given = cond_either (λ k. 0 < k) (single s.sheet.profile) 32 5 (omega arith) (omega arith) in
      let p = rows_pass (before s c lent) (omega arith, (omega arith, (omega arith, (given, (omega arith, tt))))) (sym row_numbers ∙ h) in
      (rows_rest (before s c lent) (line_declined s.sheet (asked line)) p, not-false (in_range s) p.0, ltb-false (length lent) 65536 p.1.0, omega (arith, ltb-false (last_client s.sheet.profile) c p.1.1.1.0, last_below s.sheet.profile))

-- a line whose own rows decide comes to what it asks
pub step_is : (s : State) (c : ℕ) (line lent : List ℕ) → number_of s (Line c line) lent ≡ line_declined s.sheet (asked line) → step s (call_of (Line c line) lent) ≡ line_effect s c (asked line)
unfolding line_effect outcome perform line_outcome refusal
step_is s c line lent e = rw e (go (line_declined s.sheet (asked line)) (line_number s.sheet (asked line)))
  where
    go : (n : ℕ) → ((n ≡ 0 → ⊥) → (12 ≤ n) × (n ≤ 23)) → outcome s.sheet s (Line c line) n ≡ line_outcome s c (asked line) n
    go zero h = refl
    go (suc n) h = let q = h (λ z. omega (arith, z)) in rw (le-ltb (suc n) 12 q.0, le-ltb 23 (suc n) q.1)

-- and so does its answer
pub answered_line : (s : State) (c : ℕ) (line lent : List ℕ) {r : Answer} {out : List ℕ} → number_of s (Line c line) lent ≡ line_declined s.sheet (asked line) → 65536 ≤ length lent
    → Gives (line_effect s c (asked line)) lent r out → Answers s (Line c line) lent r out
answered_line s c line lent {r} {out} e room g =
    let h = as_given (step_is s c line lent e) g in
    answers s (Line c line) lent room h.number h.state h.sent
