-- The log level of a fresh device and of a restarted one; a halt keeps it.
use native.Mathlib.Omega.{arith}
use mathlib.Core.Path.{◌≡◌, refl}
use mathlib.Core.Bool.{cond}
use lib.Dec.{eqb}
use Rattle.output.specs.Text.{text}
use Rattle.machine.specs.declared.Opened.{Opened}
use Rattle.machine.specs.Messages.{level_text}
use Rattle.machine.specs.Requests.{answer}
use Rattle.machine.specs.Declined.{Line, call_of}
use Rattle.machine.specs.Machine.{Effect, perform, line_work}
use Rattle.machine.specs.Claims.{StartsAtWarn}
use Rattle.machine.proofs.StepLaws.{by_cases}
use Rattle.machine.proofs.OpenedRange.{opened_cases}

-- the level by the number that opening gives
abbrev LevelBy : Opened → Type 0
LevelBy o = level_text o.state.level ≡ cond (eqb o.number 0) (text "warn") (text "off")

pub starts_at_warn : StartsAtWarn
unfolding perform line_work answer level_text
starts_at_warn = record {
  opened_level = λ start. opened_cases LevelBy start (λ _ _ _. refl) (λ n z. rw z);
  restarted_level = λ s c line lent m e. by_cases (λ (f : Effect). f.number ≡ 0 → level_text f.next.level ≡ text "warn") s (call_of (Line c line) lent) (λ _ _. rw e) (λ n _ q. absurd (omega arith));
  halted_level = λ s c line lent m e. by_cases (λ (f : Effect). f.next.level ≡ s.level) s (call_of (Line c line) lent) (λ _. rw e) (λ _ _. refl);
}
