-- What is found is that no pair passed is alike, of 64 in the end. The lengths of the texts are those of the array's elements.
use native.Mathlib.Numerals.{add-one}
use native.Mathlib.Omega.{arith}
use mathlib.Core.Path.{◌≡◌, refl, sym}
use Rattle.machine.specs.Places.{all_below}
use Rattle.rules.specs.Apart.{apart_at, choices_apart}
use Rattle.rules.proofs.ElementLaws.{choices_long}
use Rattle.rules.proofs.choices_compared.Goals as goal

pub loop-q-init : goal.loop-q-init
unfolding all_below
loop-q-init c = refl

pub slice_bounds-alike_texts-end : goal.slice_bounds-alike_texts-end
slice_bounds-alike_texts-end c = sym (choices_long c.args.options _ c.well_formed.1.0 _ (omega arith))

pub slice_bounds-alike_texts-end-in-loop-q : goal.slice_bounds-alike_texts-end-in-loop-q
slice_bounds-alike_texts-end-in-loop-q c = sym (choices_long c.args.options _ c.well_formed.1.0 _ (omega arith))

pub loop-q-preserved : goal.loop-q-preserved
unfolding all_below apart_at
loop-q-preserved c = rw (add-one, c.loop-q.invariant, c.alike_texts-like.ensures)

pub returns : goal.returns
unfolding choices_apart
returns c = let e : c.loop-q.q ≡ 64 = omega arith in rw (c.loop-q.invariant, e, c.from-n.ensures)
