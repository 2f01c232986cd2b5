-- What the reply to a `sensor-sampling` tells that is not declined.
use Prim.Native.Nat.{ℕ, ◌<◌}
use native.Mathlib.Omega.{arith}
use mathlib.Core.Path.{◌≡◌, refl, sym, ◌∙◌}
use mathlib.Core.Bool.{true, false, cond}
use mathlib.Core.List.{List, [], ◌∷◌}
use lib.Dec.{eqb, leb, ltb}
use lib.ListN.{length, get_or}
use borrow.Author.Tests.{leb-false, ltb-false}
use Rattle.output.specs.Text.{text, all}
use Rattle.message.specs.Message.{Message}
use Rattle.machine.specs.declared.Sheet.{Sheet}
use Rattle.machine.specs.declared.Strategy.{Strategy}
use Rattle.machine.specs.declared.State.{State}
use Rattle.machine.specs.Places.{any}
use Rattle.machine.specs.Sheet.{sensor_of, not_on_sheet, sensors_ok}
use Rattle.machine.specs.State.{pair_of}
use Rattle.machine.specs.Range.{strategy_ok}
use Rattle.machine.specs.Messages.{sampling_reply}
use Rattle.machine.specs.Requests.{argument, listed, first_of, strategy_asked}
use Rattle.machine.specs.Declined.{sampling_declined}
use Rattle.machine.specs.Reader.{SetTo, news}
use Rattle.machine.proofs.TestLaws.{and_in, or_false, passed, cond_true}
use Rattle.machine.proofs.SheetLaws.{sensors_out, places_passed}
use Rattle.machine.proofs.RangeLaws.{InRange}
use Rattle.machine.proofs.PairRange.{held_suits}
use Rattle.machine.proofs.SamplingLaws.{listed_known, setting_fits}
use Rattle.machine.proofs.NewsLaws.{news_sampling}

-- of a list that is known: a strategy that suits each sensor
listed_told : (sheet : Sheet) → sensors_ok sheet ≡ true → (m : Message) → m.name ≡ text "sensor-sampling" → sampling_declined sheet m ≡ 0
    → (st : Strategy) → all (λ j. strategy_ok (sensor_of sheet j).kind st) (listed sheet m) ≡ true
    → news sheet (sampling_reply m (argument m 0) (first_of sheet (listed sheet m)) st) ≡ SetTo (listed sheet m) st
unfolding listed
listed_told sheet h m e d st ok =
    news_sampling sheet h m e (argument m 0) (listed sheet m) refl (listed_known sheet m d).0 (listed_known sheet m d).1 st ok

-- a list with a strategy
pub setting_told : (sheet : Sheet) → sensors_ok sheet ≡ true → (m : Message) → m.name ≡ text "sensor-sampling" → sampling_declined sheet m ≡ 0
    → eqb (length m.args) 1 ≡ false
    → news sheet (sampling_reply m (argument m 0) (first_of sheet (listed sheet m)) (strategy_asked sheet m)) ≡ SetTo (listed sheet m) (strategy_asked sheet m)
setting_told sheet h m e d q = listed_told sheet h m e d (strategy_asked sheet m) (setting_fits sheet (sensors_out sheet h) m d q)

-- one name has passed row 15
pub query_one : (sheet : Sheet) (m : Message) → sampling_declined sheet m ≡ 0 → eqb (length m.args) 1 ≡ true → ltb 1 (length (listed sheet m)) ≡ false
unfolding sampling_declined
query_one sheet m e q =
    let rest = (places_passed sheet (listed sheet m) _ e).1.1 in
    (passed (ltb 1 (length (listed sheet m))) 15 0 (omega arith) (sym (cond_true (eqb (length m.args) 1) (cond (ltb 1 (length (listed sheet m))) 15 0) _ q) ∙ rest)).0

query_suits : (s : State) → InRange s → (c : ℕ) → c < 8 → (js : List ℕ) → any (not_on_sheet s.sheet) js ≡ false → ltb 1 (length js) ≡ false
    → all (λ j. strategy_ok (sensor_of s.sheet j).kind (pair_of s c (get_or js 0 0)).strategy) js ≡ true
unfolding any
query_suits s r c hc [] known one = refl
query_suits s r c hc (j ∷ []) known one =
    and_in (strategy_ok (sensor_of s.sheet j).kind (pair_of s c j).strategy) true
    (held_suits s r c j hc (leb-false s.sheet.count j (or_false (leb s.sheet.count j) false known).0)) refl
query_suits s r c hc (j ∷ k ∷ ks) known one = absurd (omega (arith, ltb-false 1 (length (j ∷ k ∷ ks)) one))

-- one name alone
pub query_told : (s : State) → InRange s → (c : ℕ) → c < 8 → (m : Message) → m.name ≡ text "sensor-sampling" → sampling_declined s.sheet m ≡ 0
    → eqb (length m.args) 1 ≡ true
    → news s.sheet (sampling_reply m (argument m 0) (first_of s.sheet (listed s.sheet m)) (pair_of s c (get_or (listed s.sheet m) 0 0)).strategy)
    ≡ SetTo (listed s.sheet m) (pair_of s c (get_or (listed s.sheet m) 0 0)).strategy
query_told s r c hc m e d q = listed_told s.sheet r.sensors_in m e d (pair_of s c (get_or (listed s.sheet m) 0 0)).strategy
    (query_suits s r c hc (listed s.sheet m) (listed_known s.sheet m d).0 (query_one s.sheet m d q))
