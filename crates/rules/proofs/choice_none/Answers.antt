-- The text is zero where its number is.
use mathlib.Core.Path.{◌≡◌}
use lib.ListN.{length}
use borrow.Author.Rules.{rules}
use Rattle.machine.specs.Sheet.{choice_none}
use Rattle.rules.proofs.EmptyLaws.{zero_number}
use Rattle.rules.proofs.choice_none.Goals as goal

pub returns : goal.returns
unfolding choice_none
returns c = let o = c.args.o in
    let h : length o.text ≡ 16 = search rules in
    rw c.from_le_bytes-text.ensures (cc (zero_number o.text h))
