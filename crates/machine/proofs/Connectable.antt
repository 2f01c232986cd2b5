-- A device of every sheet that opens can be connected.
use mathlib.Core.Path.{◌≡◌, refl}
use mathlib.Core.Bool.{false}
use lib.ListN.{length}
use borrow.Author.Tests.{le-ltb, eqb-false}
use Rattle.machine.specs.declared.Opened.{Opened}
use Rattle.machine.specs.Sheet.{last_client}
use Rattle.machine.specs.Opening.{Start, opened}
use Rattle.machine.specs.Declined.{client_declined, action_declined, declined}
use Rattle.machine.specs.Machine.{outcome}
use Rattle.machine.specs.TwoDevices.{after, sheet_of, connected_at_end}
use Rattle.machine.specs.Claims.{Connectable}
use Rattle.machine.proofs.TestLaws.{eqb_refl}
use Rattle.machine.proofs.OpenedRange.{opened_cases}
use Rattle.machine.proofs.KeptInRange.{kept_in_range}
use Rattle.machine.proofs.ListLaws.{opened_alone}

-- a sheet that opens gives a device that is not halted
opened_running : (start : Start) → (opened start).number ≡ 0 → (opened start).state.halted ≡ false
opened_running start = opened_cases (λ (o : Opened). o.number ≡ 0 → o.state.halted ≡ false) start (λ _ _ _ _. refl) (λ n z e. absurd (eqb-false n 0 z e))

pub connectable : Connectable
unfolding after connected_at_end outcome declined action_declined client_declined
connectable start e c hc address fits lent room =
    rw (kept_in_range.opened_in_range start, le-ltb (length lent) 65536 room, opened_running start e, le-ltb (last_client (sheet_of start).profile) c hc, opened_alone start c, fits, eqb_refl c)
