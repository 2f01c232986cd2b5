-- No message that is sent is one that no device of the sheet writes.
use mathlib.Core.Path.{◌≡◌, refl, ap, sym, ◌∙◌}
use mathlib.Core.Bool.{Bool, true, false, true≢false}
use mathlib.Core.List.{List}
use Rattle.message.specs.Message.{Message}
use Rattle.message.specs.Delivery.{Delivery}
use Rattle.machine.specs.declared.Sheet.{Sheet}
use Rattle.machine.specs.declared.State.{State}
use Rattle.machine.specs.Places.{Each}
use Rattle.machine.specs.Machine.{step}
use Rattle.machine.specs.Reader.{News, Other, Impossible, Reported, SetTo, news}
use Rattle.machine.specs.Claims.{NeverImpossible}
use Rattle.machine.proofs.PlacesLaws.{each_weaker}
use Rattle.machine.proofs.QuietLaws.{Silent}
use Rattle.machine.proofs.ShapeLaws.{Held, ReportsOf, by_shape}

-- a delivery that some device of the sheet can write
abbrev Possible : Sheet → Delivery → Type 0
Possible sheet d = news sheet d.message ≡ Impossible → ⊥

abbrev is_impossible : News → Bool
is_impossible Other = false
is_impossible Impossible = true
is_impossible (Reported j r) = false
is_impossible (SetTo js st) = false

possible : (sheet : Sheet) (m : Message) (v : News) → news sheet m ≡ v → is_impossible v ≡ false → news sheet m ≡ Impossible → ⊥
possible sheet m v e h q = true≢false (ap is_impossible (sym q ∙ e) ∙ h)

reports_possible : (sheet : Sheet) (s : State) (ds : List Delivery) → ReportsOf sheet s ds → Each (Possible sheet) ds
reports_possible sheet s = each_weaker (λ (d : Delivery). Held sheet s (news sheet d.message)) (Possible sheet) (λ d h. possible sheet d.message _ h.1.1 refl)

pub never_impossible : NeverImpossible
never_impossible s call = by_shape (Each (Possible s.sheet)) s call
    (each_weaker (Silent s.sheet) (Possible s.sheet) (λ d e. possible s.sheet d.message Other e refl))
    (reports_possible s.sheet (step s call).next)
    (λ c m js st ds e h _. (possible s.sheet m _ e refl, reports_possible s.sheet (step s call).next ds h))
