-- All bytes are passed in the end.
use native.Mathlib.Omega.{arith}
use mathlib.Core.Path.{◌≡◌, ap, ◌∙◌}
use lib.ListN.{take}
use lib.Seq.{take_all}
use Rattle.std.specs.List.{count_by}
use Rattle.input.proofs.SpaceLaws.{is_space, spaces_counted}
use Rattle.input.proofs.count_spaces.Goals as goal

pub returns : goal.returns
returns c = let s = c.args.line.now in
    let e : take c.loop-b.b-index s ≡ s = take_all c.loop-b.b-index s (omega arith) in
    c.loop-b.invariant.1.1 ∙ ap (count_by is_space) e ∙ spaces_counted s
