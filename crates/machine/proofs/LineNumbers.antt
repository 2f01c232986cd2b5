-- The numbers that decline a line: 12 and 13 where it is no request, 14 to 23 where it is one.
use Prim.Native.Nat.{ℕ, ◌+◌, ◌≤◌}
use native.Mathlib.Omega.{arith}
use mathlib.Core.Path.{◌≡◌, refl, ap, sym, ◌∙◌}
use mathlib.Core.Bool.{true, not, ◌&&◌, ◌||◌}
use Rattle.std.specs.Prelude.{Option, None, Some}
use lib.Dec.{eqb, leb, ltb}
use mathlib.Core.List.{List}
use lib.ListN.{length, drop}
use borrow.Author.Tests.{leb-true, ne_eqb}
use Rattle.message.specs.Message.{Message}
use Rattle.value.specs.Reading.{is_measured}
use Rattle.machine.specs.declared.Sheet.{Sheet}
use Rattle.machine.specs.declared.Request.{Request}
use Rattle.machine.specs.declared.Request.TheVariants.{ClientList, Halt, Help, LogLevel, Restart, SensorList, SensorSampling, SensorValue, VersionList, Watchdog}
use Rattle.machine.specs.Places.{any, twice}
use Rattle.machine.specs.Sheet.{sensor_of, not_on_sheet}
use Rattle.machine.specs.Requests.{Asked, Nothing, NotMessage, Reply, Unknown, Asks, argument, asked_places, hidden, request_named, found_number, level_of, listed, kind_asked, parameter_count, by_difference, is_bad, parameters_of, strategy_made, shortest_over_longest}
use Rattle.machine.specs.Declined.{count_fits, places_declined, help_declined, setting_declined, sampling_declined, arguments_declined, request_declined, line_declined}
use Rattle.machine.proofs.TestLaws.{cond_either, and_true}

-- 0, or a number from `least` to 23
abbrev Within : ℕ → ℕ → Type 0
Within least n = (eqb n 0 || (leb least n && leb n 23)) ≡ true

abbrev OfRequest : ℕ → Type 0
OfRequest n = Within 14 n

help_row : (profile : ℕ) (o : Option Request) → OfRequest (help_declined profile o)
help_row profile None = refl
help_row profile (Some r) = cond_either (λ (f : Option Request). OfRequest (found_number 23 f)) (hidden profile r) None (Some r) refl refl

-- of a list: its two rows, and those behind them
places_row : (sheet : Sheet) (js : List ℕ) (rest : ℕ) → OfRequest rest → OfRequest (places_declined sheet js rest)
places_row sheet js rest h = cond_either OfRequest (any (not_on_sheet sheet) js) 16 _ refl (cond_either OfRequest (twice js) 21 rest refl h)

sampling_row : (sheet : Sheet) (m : Message) → OfRequest (sampling_declined sheet m)
unfolding sampling_declined setting_declined
sampling_row sheet m =
    places_row sheet (listed sheet m) _
    (cond_either OfRequest (eqb (length m.args) 1) _ (setting_declined sheet (listed sheet m) (kind_asked m) (length m.args) (drop 2 m.args))
    (cond_either OfRequest (ltb 1 (length (listed sheet m))) 15 0 refl refl)
    (cond_either OfRequest (leb 7 (kind_asked m)) 17 _ refl
    (cond_either OfRequest (not (eqb (length m.args) (2 + parameter_count (kind_asked m)))) 15 _ refl
    (cond_either OfRequest (by_difference (kind_asked m) && any (λ j. not (is_measured (sensor_of sheet j).kind)) (listed sheet m)) 18 _ refl
    (cond_either OfRequest (any is_bad (parameters_of sheet (listed sheet m) (kind_asked m) (drop 2 m.args))) 19 _ refl
    (cond_either OfRequest (shortest_over_longest (strategy_made sheet (listed sheet m) (kind_asked m) (drop 2 m.args))) 20 0 refl refl))))))

arguments_row : (sheet : Sheet) (r : Request) (m : Message) → OfRequest (arguments_declined sheet r m)
unfolding arguments_declined
arguments_row sheet ClientList m = refl
arguments_row sheet Halt m = refl
arguments_row sheet Help m = cond_either OfRequest (eqb (length m.args) 0) 0 (help_declined sheet.profile (request_named (argument m 0))) refl (help_row sheet.profile (request_named (argument m 0)))
arguments_row sheet LogLevel m = cond_either OfRequest (eqb (length m.args) 0) 0 _ refl (cond_either OfRequest (leb 8 (level_of (argument m 0))) 22 0 refl refl)
arguments_row sheet Restart m = refl
arguments_row sheet SensorList m = places_row sheet (asked_places sheet m) 0 refl
arguments_row sheet SensorSampling m = sampling_row sheet m
arguments_row sheet SensorValue m = places_row sheet (asked_places sheet m) 0 refl
arguments_row sheet VersionList m = refl
arguments_row sheet Watchdog m = refl

request_row : (sheet : Sheet) (r : Request) (m : Message) → OfRequest (request_declined sheet r m)
request_row sheet r m = cond_either OfRequest (not (count_fits r (length m.args))) 15 (arguments_declined sheet r m) refl (arguments_row sheet r m)

asked_row : (sheet : Sheet) (r : Request) (m : Message) → OfRequest (line_declined sheet (Asks r m))
unfolding line_declined
asked_row sheet r m = cond_either OfRequest (hidden sheet.profile r) 14 _ refl (request_row sheet r m)

bounds : (least n : ℕ) → Within least n → (n ≡ 0 → ⊥) → (least ≤ n) × (n ≤ 23)
bounds least n h z =
    let q = and_true (leb least n) (leb n 23) (sym (ap (λ b. b || (leb least n && leb n 23)) (ne_eqb n 0 z)) ∙ h) in
    (leb-true least n q.0, leb-true n 23 q.1)

-- a request that is declined
pub request_number : (sheet : Sheet) (r : Request) (m : Message) → (request_declined sheet r m ≡ 0 → ⊥) → (14 ≤ request_declined sheet r m) × (request_declined sheet r m ≤ 23)
request_number sheet r m h = bounds 14 (request_declined sheet r m) (request_row sheet r m) h

-- a line that is declined
pub line_number : (sheet : Sheet) (a : Asked) → (line_declined sheet a ≡ 0 → ⊥) → (12 ≤ line_declined sheet a) × (line_declined sheet a ≤ 23)
unfolding line_declined
line_number sheet Nothing h = absurd (h refl)
line_number sheet NotMessage h = (omega arith, omega arith)
line_number sheet Reply h = (omega arith, omega arith)
line_number sheet (Unknown m) h = (omega arith, omega arith)
line_number sheet (Asks r m) h = let q = bounds 14 (line_declined sheet (Asks r m)) (asked_row sheet r m) h in (omega (arith, q.0), q.1)
