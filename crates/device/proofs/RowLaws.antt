-- Numbers of rows, and the rows of `connect` and `disconnect`.
use Prim.Native.Nat.{ℕ, ◌≤◌, ◌<◌}
use native.Mathlib.Omega.{arith}
use mathlib.Core.Path.{◌≡◌, sym, ◌∙◌}
use mathlib.Core.Bool.{Bool, cond, not, ◌&&◌}
use mathlib.Core.List.{List}
use lib.ListN.{length}
use Rattle.machine.specs.declared.State.{State}
use Rattle.machine.specs.Sheet.{single}
use Rattle.machine.specs.Range.{in_range}
use Rattle.machine.specs.Declined.{client_declined, connect_refused, address_fits}
use Rattle.machine.proofs.TestLaws.{fitted}
use Rattle.machine.proofs.StepLaws.{client_fits}
use Rattle.machine.proofs.Sent.{address_most}
use Rattle.declining.proofs.AnswerLaws.{rows_then, own_passes}

-- rows 5 (or 32) and 6 for the same test and the same rows behind them
pub client_same : (profile c : ℕ) {refused r : Bool} {own o : ℕ} → refused ≡ r → own ≡ o → client_declined profile refused c own ≡ client_declined profile r c o
client_same profile c e f = rw (e, f)

-- whether 6 declines a connect
pub refused_by : (profile : ℕ) {there one r : Bool} → there ≡ r → one ≡ single profile → (there && not one) ≡ connect_refused profile r
refused_by profile e f = rw (e, f)

-- where no row declines, the client is one of the eight and its address fits
pub connect_passes : (s : State) (lent : List ℕ) (refused : Bool) (client : ℕ) (address : List ℕ) {good : Bool} {row own n : ℕ} → good ≡ in_range s → row ≡ cond (address_fits address) 0 7
    → own ≡ client_declined s.sheet.profile refused client row → n ≡ rows_then good s lent own → n ≡ 0 → (client < 8) × (length address ≤ 48)
connect_passes s lent refused client address {row = row} g a f e h =
    let p = client_fits s.sheet.profile refused client row (own_passes s lent g f e h) in
    (p.0, address_most address (fitted (address_fits address) 7 0 (omega arith) (sym a ∙ p.1.1)).0)
