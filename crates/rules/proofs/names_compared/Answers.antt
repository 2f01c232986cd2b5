-- What is found is that no pair passed is alike, of 1,024 in the end. The lengths of the names are those of the array's elements.
use native.Mathlib.Numerals.{add-one}
use native.Mathlib.Omega.{arith}
use mathlib.Core.Path.{◌≡◌, refl, sym}
use Rattle.machine.specs.Places.{all_below}
use Rattle.rules.specs.Apart.{apart_at, names_apart}
use Rattle.rules.proofs.ElementLaws.{names_long}
use Rattle.rules.proofs.names_compared.Goals as goal

pub loop-q-init : goal.loop-q-init
unfolding all_below
loop-q-init c = refl

pub slice_bounds-alike_texts-end : goal.slice_bounds-alike_texts-end
slice_bounds-alike_texts-end c = sym (names_long c.args.sheet _ c.well_formed.0 _ (omega arith))

pub slice_bounds-alike_texts-end-in-loop-q : goal.slice_bounds-alike_texts-end-in-loop-q
slice_bounds-alike_texts-end-in-loop-q c = sym (names_long c.args.sheet _ c.well_formed.0 _ (omega arith))

pub loop-q-preserved : goal.loop-q-preserved
unfolding all_below apart_at
loop-q-preserved c = rw (add-one, c.loop-q.invariant, c.alike_texts-like.ensures)

pub returns : goal.returns
unfolding names_apart
returns c = let e : c.loop-q.q ≡ 1024 = omega arith in rw (c.loop-q.invariant, e, c.from-count.ensures)
