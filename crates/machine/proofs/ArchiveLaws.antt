-- An archive's lines are those of its messages, and its last report is read off either.
use Prim.Native.Nat.{ℕ, ◌+◌}
use Prim.Native.Char.{code}
use mathlib.Core.Path.{◌≡◌, refl, ap, ap₂, sym, ◌∙◌}
use mathlib.Core.Bool.{Bool, true, false, cond, not, ◌&&◌}
use mathlib.Core.List.{List, [], ◌∷◌, ◌++◌, map, map-append}
use Rattle.std.specs.Prelude.{Option, None, Some}
use lib.Dec.{eqb, ltb}
use lib.ListN.{length, get_or, drop}
use Rattle.output.specs.Text.{text, all}
use Rattle.message.specs.Message.{Message, line}
use Rattle.message.specs.Delivery.{Delivery, packet}
use Rattle.line.specs.Line.{message, parse, WellFormed}
use Rattle.machine.specs.declared.Sheet.{Sheet}
use Rattle.machine.specs.declared.Strategy.{Strategy}
use Rattle.machine.specs.Places.{Each, any, has, twice, from_first}
use Rattle.machine.specs.Sheet.{sensor_of, not_on_sheet}
use Rattle.machine.specs.Range.{strategy_ok}
use Rattle.machine.specs.Requests.{strategy_named, parameter_count, strategy_by, first_of}
use Rattle.machine.specs.Declined.{Call}
use Rattle.machine.specs.Machine.{step}
use Rattle.machine.specs.Reader.{Told, News, Other, Impossible, Reported, SetTo, agrees, report_read, agreed, parameters_read, all_numbers, set_with, strategy_news, sampling_news, is_named, is_ok, news, View, view_after, view_by}
use Rattle.machine.specs.TwoDevices.{after, connects, packets_of, is_greeting, greets, lines_to, lines_of, sent_to, messages_of, report_in, report_by, later, last_report, without_end}
use Rattle.machine.proofs.TestLaws.{cond_either}
use Rattle.machine.proofs.PlacesLaws.{each_append, each_from}
use Rattle.machine.proofs.HeardLaws.{each_to}
use Rattle.machine.proofs.FileLaws.{line_parses}
use Rattle.machine.proofs.ListLaws.{sent_packets}
use Rattle.machine.proofs.Sent.{sent_well_formed}
use Rattle.machine.specs.Opening.{Start}

-- Lines.

pub lines_packed : (a : ℕ) (ds : List Delivery) → lines_to a (map packet ds) ≡ map line (sent_to a ds)
unfolding lines_to sent_to
lines_packed a [] = refl
lines_packed a (d ∷ ds) = go (eqb d.client a) (lines_packed a ds)
  where
    go : (b : Bool) → lines_to a (map packet ds) ≡ map line (sent_to a ds)
        → cond b (line d.message ∷ lines_to a (map packet ds)) (lines_to a (map packet ds)) ≡ map line (cond b (d.message ∷ sent_to a ds) (sent_to a ds))
    go true h = ap (λ l. line d.message ∷ l) h
    go false h = h

-- the greeting stands among the lines where it stands among the messages
greeting_lines : (ms : List Message) → Each WellFormed ms → from_first (λ l. is_greeting (parse (without_end l))) (map line ms) ≡ map line (from_first greets ms)
unfolding from_first
greeting_lines [] w = refl
greeting_lines (m ∷ ms) w = ap (λ p. cond (is_greeting p) (line m ∷ map line ms) (from_first (λ l. is_greeting (parse (without_end l))) (map line ms))) (line_parses m w.0) ∙ go (greets m) (greeting_lines ms w.1)
  where
    go : (b : Bool) → from_first (λ l. is_greeting (parse (without_end l))) (map line ms) ≡ map line (from_first greets ms)
        → cond b (line m ∷ map line ms) (from_first (λ l. is_greeting (parse (without_end l))) (map line ms)) ≡ map line (cond b (m ∷ ms) (from_first greets ms))
    go true ih = refl
    go false ih = ih

module _ (start : Start) (a : ℕ) where
  pub lines_are : (h : List Call) → lines_of start a h ≡ map line (messages_of start a h)
  unfolding lines_of messages_of
  lines_are [] = refl
  lines_are (call ∷ h) = go (connects start a h call) (ap (lines_to a) (sent_packets start a h call) ∙ lines_packed a (step (after start h) call).sent) (lines_are h)
    where
      told : List Message
      told = sent_to a (step (after start h) call).sent

      go : (b : Bool) → lines_to a (packets_of start h call) ≡ map line told → lines_of start a h ≡ map line (messages_of start a h)
          → cond b (from_first (λ l. is_greeting (parse (without_end l))) (lines_to a (packets_of start h call))) (lines_of start a h ++ lines_to a (packets_of start h call))
          ≡ map line (cond b (from_first greets told) (messages_of start a h ++ told))
      go true e ih = ap (from_first (λ l. is_greeting (parse (without_end l)))) e ∙ greeting_lines told (each_to WellFormed a (step (after start h) call).sent (sent_well_formed (after start h) call))
      go false e ih = ap₂ ◌++◌ ih e ∙ sym (map-append line (messages_of start a h) told)

pub each_message : (P : Message → Type 0) (start : Start) (a : ℕ) → ((h : List Call) (call : Call) → Each (λ (d : Delivery). P d.message) (step (after start h) call).sent)
    → (h : List Call) → Each P (messages_of start a h)
unfolding messages_of
each_message P start a sent [] = tt
each_message P start a sent (call ∷ h) =
    let own = each_to P a (step (after start h) call).sent (sent h call) in
    cond_either (Each P) (connects start a h call) _ _ (each_from P greets (sent_to a (step (after start h) call).sent) own)
    (each_append P (messages_of start a h) (sent_to a (step (after start h) call).sent) (each_message P start a sent h) own)

-- The last report.

later_later : (x y z : Option Told) → later (later x y) z ≡ later x (later y z)
later_later None y z = refl
later_later (Some r) y z = refl

-- a sampling reply tells a strategy, or is one that no device writes
module _ (sheet : Sheet) (P : News → Type 0) (impossible : P Impossible) (set : (js : List ℕ) (st : Strategy) → P (SetTo js st)) where
  with_either : (js : List ℕ) (k : ℕ) (o : Option (List ℕ)) → P (set_with sheet js k o)
  with_either js k None = impossible
  with_either js k (Some ns) = cond_either P (all (λ i. strategy_ok (sensor_of sheet i).kind (strategy_by k ns)) js) (SetTo js (strategy_by k ns)) Impossible (set js (strategy_by k ns)) impossible

  strategy_either : (js : List ℕ) (args : List (List ℕ)) → P (strategy_news sheet js args)
  unfolding strategy_news
  strategy_either js args = cond_either P
      (not (any (not_on_sheet sheet) js) && (not (twice js) && (ltb k 7 && eqb (length args) (1 + parameter_count k)))) (set_with sheet js k numbers) Impossible (with_either js k numbers) impossible
    where
      k : ℕ
      k = strategy_named (get_or args 0 [])

      numbers : Option (List ℕ)
      numbers = all_numbers (parameters_read (first_of sheet js) k (drop 1 args))

  pub sampling_either : (m : Message) → P (sampling_news sheet m)
  unfolding sampling_news
  sampling_either m = strategy_either _ (drop 2 m.args)

module _ (sheet : Sheet) (j : ℕ) where
  set_last : (js : List ℕ) (st : Strategy) (v : View) → (view_after j (SetTo js st) v).last ≡ v.last
  unfolding view_after
  set_last js st v = cond_either (λ (u : View). u.last ≡ v.last) (has j js) (record { strategy = st; last = v.last }) v refl refl

  -- a sampling reply is no report
  sampling_last : (m : Message) (v : View) → (view_after j (sampling_news sheet m) v).last ≡ v.last
  unfolding view_after
  sampling_last m v = sampling_either sheet (λ w. (view_after j w v).last ≡ v.last) refl (λ js st. set_last js st v) m

  other_last : (v : View) → (view_after j Other v).last ≡ v.last
  unfolding view_after
  other_last v = refl

  -- a report that a device can write
  told_last : (w : News) (v : View) → (agreed sheet w ≡ Impossible → ⊥) → (view_after j (agreed sheet w) v).last ≡ later (report_in j w) v.last
  unfolding view_after agreed
  told_last Other v p = refl
  told_last Impossible v p = absurd (p refl)
  told_last (Reported k r) v p = go (agrees (sensor_of sheet k) r.status r.value) p
    where
      go : (b : Bool) → (cond b (Reported k r) Impossible ≡ Impossible → ⊥) → (view_after j (cond b (Reported k r) Impossible) v).last ≡ later (cond (eqb k j) (Some r) None) v.last
      go false q = absurd (q refl)
      go true q = told (eqb k j)
        where
          told : (c : Bool) → (cond c (record { strategy = v.strategy; last = Some r }) v).last ≡ later (cond c (Some r) None) v.last
          told true = refl
          told false = refl
  told_last (SetTo js st) v p = set_last js st v

  -- a message that a device can write
  news_last : (m : Message) (v : View) → (news sheet m ≡ Impossible → ⊥) → (view_after j (news sheet m) v).last ≡ later (report_by sheet j (message m)) v.last
  unfolding news
  news_last m v possible = go (is_named (code "#") (text "sensor-status") m) possible
    where
      go : (b : Bool) → (cond b (agreed sheet (report_read sheet m)) (cond (is_ok (text "sensor-sampling") m) (sampling_news sheet m) Other) ≡ Impossible → ⊥)
          → (view_after j (cond b (agreed sheet (report_read sheet m)) (cond (is_ok (text "sensor-sampling") m) (sampling_news sheet m) Other)) v).last
          ≡ later (cond b (report_in j (report_read sheet m)) None) v.last
      go true p = told_last (report_read sheet m) v p
      go false p = cond_either (λ w. (view_after j w v).last ≡ v.last) (is_ok (text "sensor-sampling") m) (sampling_news sheet m) Other (sampling_last m v) (other_last v)

  -- over a file
  pub last_is : (ms : List Message) (v : View) → Each WellFormed ms → Each (λ m. news sheet m ≡ Impossible → ⊥) ms → (view_by sheet j ms v).last ≡ later (last_report sheet j (map line ms)) v.last
  unfolding view_by last_report
  last_is [] v w p = refl
  last_is (m ∷ ms) v w p = last_is ms _ w.1 p.1 ∙ (ap (later (last_report sheet j (map line ms))) (news_last m v p.0 ∙ ap (λ q. later (report_by sheet j q) v.last) (sym (line_parses m w.0)))
      ∙ sym (later_later (last_report sheet j (map line ms)) (report_by sheet j (parse (without_end (line m)))) v.last))
