-- The options fill the first places of the array, as many as the count says.
use Prim.Native.Nat.{◌≤◌}
use native.Mathlib.Omega.{arith}
use mathlib.Core.Path.{refl, ◌∙◌}
use borrow.Author.Tests.{le-leb}
use Rattle.machine.specs.Opening.{options_at}
use Rattle.layout.proofs.ManyLaws.{so_many, filled}
use Rattle.layout.proofs.options_at.Goals as goal

pub returns : goal.returns
unfolding options_at
returns c =
    let count = c.in_ok-count.count in
    let le : count ≤ 8 = omega (arith, c.if-count-gt-MOST_OPTIONS.false) in
    let blank = c.blank_choice-options.result in
    let parts = c.parts_at.new.parts in
    let read = rw (so_many le blank) at c.in_ok-rest.ensures in
    rw (filled le blank parts c.parts_at.auto.parts, c.parts_at.auto.parts ∙ so_many le blank, c.blank_choice-options.ensures, ← c.in_ok-count.ensures, le-leb count 8 le, read, c.parts_at.auto.parts ∙ so_many le blank) refl
