-- What is read off a call's bytes: its deliveries, and whether a request was answered `ok`.
use Prim.Native.Nat.{ℕ}
use Prim.Native.Char.{code}
use mathlib.Core.Path.{◌≡◌, refl, ap, sym, ◌∙◌}
use mathlib.Core.Bool.{Bool, true, false, cond, ◌&&◌, ◌||◌}
use mathlib.Core.List.{List, [], ◌∷◌, map}
use Rattle.std.specs.Prelude.{Option, None, Some}
use lib.Dec.{eqb, ltb}
use lib.ListN.{length}
use lib.Seq.{take-append_seam}
use borrow.Author.Tests.{eqb-true, eqb-false, eq-eqb}
use Rattle.output.specs.Text.{same}
use Rattle.output.proofs.TextLaws.{same_refl, same_true}
use Rattle.message.specs.Message.{Message, line}
use Rattle.message.specs.Delivery.{Delivery, to, packet, cut, Short}
use Rattle.message.proofs.Cut.{cut_deliveries}
use Rattle.line.specs.Line.{Parse, malformed, message, parse, blank_line, WellFormed}
use Rattle.line.proofs.ParsedHead.{parsed_head}
use Rattle.machine.specs.declared.State.{State}
use Rattle.machine.specs.declared.Request.{Request}
use Rattle.machine.specs.declared.Request.TheVariants.{Halt, Restart, SensorSampling}
use Rattle.machine.specs.Places.{any, Each}
use Rattle.machine.specs.Messages.{ok_reply, sampling_reply}
use Rattle.machine.specs.Report.{Work}
use Rattle.machine.specs.Requests.{Asked, Nothing, NotMessage, Reply, Unknown, Asks, asked, asked_by, asked_for, request_named, sampling, sampled_sends, answer}
use Rattle.machine.specs.Declined.{Action, Connect, Disconnect, Tick, Reading, Log, Line, Call, line_refusal, refusal}
use Rattle.machine.specs.Machine.{step, written}
use Rattle.machine.specs.Reader.{is_ok}
use Rattle.machine.specs.TwoDevices.{after, packets_of, is_request, answered}
use Rattle.machine.proofs.TestLaws.{none_some, cond_either}
use Rattle.machine.proofs.StepLaws.{name_for, request_name, request_found, other_kind, request_asked}
use Rattle.machine.proofs.FileLaws.{line_parses}
use Rattle.machine.proofs.QuietLaws.{code_not_ok}
use Rattle.machine.specs.Opening.{Start}

-- the deliveries in the bytes that a call counts are those that it sent
pub packets_are : (start : Start) (h : List Call) (call : Call) → Short (map packet (step (after start h) call).sent)
    → packets_of start h call ≡ map packet (step (after start h) call).sent
unfolding packets_of
packets_are start h call short = ap cut (take-append_seam (written (step (after start h) call)) _) ∙ cut_deliveries (step (after start h) call).sent short

-- a reply of success among deliveries
unfoldable pub ok_in : List ℕ → ℕ → List Delivery → Bool
ok_in name c ds = any (λ (d : Delivery). eqb d.client c && is_ok name d.message) ds

pub answered_is : (name : List ℕ) (c : ℕ) (ds : List Delivery) → Each (λ (d : Delivery). WellFormed d.message) ds → answered name c (map packet ds) ≡ ok_in name c ds
unfolding answered ok_in any
answered_is name c [] w = refl
answered_is name c (d ∷ ds) w = rw (line_parses d.message w.0, answered_is name c ds w.1)

-- a refusal is no success

one_not : (b x : Bool) → x ≡ false → (b && x) || false ≡ false
one_not true x h = rw h
one_not false x h = refl

and_not : (b x : Bool) → x ≡ false → (b && x) ≡ false
and_not true x h = h
and_not false x h = refl

pub refused_not_ok : (name : List ℕ) (c : ℕ) (s : State) (n : ℕ) (action : Action) → ok_in name c (refusal s n action) ≡ false
unfolding ok_in any refusal line_refusal
refused_not_ok name c s n (Connect k address) = refl
refused_not_ok name c s n (Disconnect k) = refl
refused_not_ok name c s n (Tick t) = refl
refused_not_ok name c s n (Reading j r) = refl
refused_not_ok name c s n (Log level logger said) = refl
refused_not_ok name c s n (Line k line) = cond_either (λ ds. ok_in name c ds ≡ false) (ltb n 12 || ltb 23 n) [] (line_refusal s.clock k n (asked line)) refl (go (asked line))
  where
    go : (w : Asked) → ok_in name c (line_refusal s.clock k n w) ≡ false
    go Nothing = refl
    go NotMessage = one_not (eqb k c) false refl
    go Reply = one_not (eqb k c) false refl
    go (Unknown m) = one_not (eqb k c) _ (and_not (same m.name name) _ (code_not_ok n))
    go (Asks r m) = one_not (eqb k c) _ (and_not (same m.name name) _ (code_not_ok n))

-- what a line asks by its name
abbrev pub asks_for : Request → Asked → Bool
asks_for r Nothing = false
asks_for r NotMessage = false
asks_for r Reply = false
asks_for r (Unknown m) = false
asks_for r (Asks q m) = same (name_for q) (name_for r)

pub request_is : (r : Request) (line : List ℕ) → is_request (name_for r) (parse line) ≡ asks_for r (asked line)
unfolding asked
request_is r line = go (parse line) refl
  where
    known : (m : Message) (o : Option Request) → request_named m.name ≡ o → same m.name (name_for r) ≡ asks_for r (asked_for o m)
    known m (Some q) e = ap (λ t. same t (name_for r)) (request_name m.name q e)
    known m None e = unnamed (same m.name (name_for r)) refl
      where
        unnamed : (b : Bool) → same m.name (name_for r) ≡ b → b ≡ false
        unnamed false q = refl
        unnamed true q = absurd (none_some r (sym e ∙ (ap request_named (same_true m.name (name_for r) q) ∙ request_found r)))

    other : (m : Message) → parse line ≡ message m → eqb m.kind (code "?") ≡ false → false ≡ asks_for r (cond (blank_line line) Nothing (asked_by (parse line)))
    other m e k = cond_either (λ w. false ≡ asks_for r w) (blank_line line) Nothing (asked_by (parse line)) refl (rw e (by_kind (eqb m.kind (code "#")) (eqb m.kind (code "!")) refl refl))
      where
        by_kind : (a b : Bool) → eqb m.kind (code "#") ≡ a → eqb m.kind (code "!") ≡ b → false ≡ asks_for r (cond a Nothing (cond b Reply (asked_for (request_named m.name) m)))
        by_kind true b p q = refl
        by_kind false true p q = refl
        by_kind false false p q = absurd (eqb-false m.kind (code "?") k (other_kind m.kind (parsed_head line m e).kind p q))

    go : (p : Parse) → parse line ≡ p → is_request (name_for r) p ≡ asks_for r (asked line)
    go malformed e = cond_either (λ w. false ≡ asks_for r w) (blank_line line) Nothing (asked_by (parse line)) refl (rw e)
    go (message m) e = asks (eqb m.kind (code "?")) refl
      where
        asks : (b : Bool) → eqb m.kind (code "?") ≡ b → (b && same m.name (name_for r)) ≡ asks_for r (asked line)
        asks true k = known m (request_named m.name) refl ∙ ap (asks_for r) (sym (request_asked line m e (eqb-true m.kind (code "?") k)))
        asks false k = other m e k

-- a reply of success that comes first
first_ok : (name : List ℕ) (c : ℕ) (m : Message) (args : List (List ℕ)) (ds : List Delivery) → m.name ≡ name → ok_in name c (to c (ok_reply m args) ∷ ds) ≡ true
unfolding ok_in any
first_ok name c m args ds e = rw (eq-eqb c c refl, e, same_refl name)

-- a request that is answered `ok` where it is not declined
abbrev pub AnswersOk : State → Request → Type 0
AnswersOk s r = (c : ℕ) (m : Message) → m.name ≡ name_for r → ok_in (name_for r) c (answer s.sheet s c r m).sent ≡ true

pub halt_ok : (s : State) → AnswersOk s Halt
unfolding answer
halt_ok s c m e = first_ok (name_for Halt) c m [] _ e

pub restart_ok : (s : State) → AnswersOk s Restart
unfolding answer
restart_ok s c m e = first_ok (name_for Restart) c m [] _ e

pub sampling_ok : (s : State) → AnswersOk s SensorSampling
unfolding answer sampling sampled_sends sampling_reply
sampling_ok s c m e = cond_either (λ (w : Work). ok_in (name_for SensorSampling) c w.sent ≡ true) (eqb (length m.args) 1) _ _
    (first_ok (name_for SensorSampling) c m _ _ e) (first_ok (name_for SensorSampling) c m _ _ e)
