-- What is found is that no pair passed is alike.
use mathlib.Core.Path.{◌≡◌}
use Rattle.machine.specs.Places.{all_below}
use Rattle.rules.specs.Apart.{apart_at, choices_alike}
use Rattle.rules.proofs.choices_compared.Given as goal

abbrev pub invariant-loop-q : goal.invariant-loop-q
invariant-loop-q l = l.ok ≡ all_below (apart_at 8 l.n (choices_alike l.options)) l.q
