-- What is found is the test of each place passed.
use mathlib.Core.Path.{◌≡◌}
use lib.ListN.{get_or}
use Rattle.machine.specs.Places.{all_below}
use Rattle.machine.specs.Sheet.{no_choice, choice_none}
use Rattle.rules.proofs.choices_none.Given as goal

abbrev pub invariant-loop-k : goal.invariant-loop-k
invariant-loop-k l = l.ok ≡ all_below (λ k. choice_none (get_or l.options k no_choice)) l.k
