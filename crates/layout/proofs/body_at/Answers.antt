-- The sensors fill the first places of the array, as many as the count says.
use Prim.Native.Nat.{◌≤◌}
use native.Mathlib.Omega.{arith}
use mathlib.Core.Path.{refl, ◌∙◌}
use borrow.Author.Tests.{le-leb}
use Rattle.machine.specs.Opening.{body_at}
use Rattle.layout.proofs.ManyLaws.{so_many, filled}
use Rattle.layout.proofs.body_at.Goals as goal

pub returns : goal.returns
unfolding body_at
returns c =
    let count = c.in_ok-count.count in
    let le : count ≤ 32 = omega (arith, c.if-count-gt-MOST_SENSORS.false) in
    let blank = c.blank_sensor-sensors.result in
    let parts = c.parts_at.new.parts in
    let read = rw (so_many le blank) at c.in_ok-rest.ensures in
    rw (filled le blank parts c.parts_at.auto.parts, c.parts_at.auto.parts ∙ so_many le blank, c.blank_sensor-sensors.ensures, ← c.in_ok-api.ensures.text, ← c.in_ok-build.ensures.text, ← c.in_ok-count.ensures, le-leb count 32 le, read, c.parts_at.auto.parts ∙ so_many le blank, c.padded.ensures, c.padded-2.ensures) refl
