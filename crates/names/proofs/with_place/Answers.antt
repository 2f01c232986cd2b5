-- A place that is not in the list fits behind it: places below 32 that are all different are at most 32.
use Prim.Native.Nat.{◌<◌}
use native.Mathlib.Omega.{arith}
use mathlib.Core.Path.{◌≡◌, sym, ◌∙◌}
use lib.ListN.{length}
use Rattle.machine.proofs.FoundLaws.{found_in}
use Rattle.names.specs.Scan.{places_of}
use Rattle.names.proofs.ListingLaws.{places_count, places_few, places_room, placed, with_twice}
use borrow.Author.Rules.{rules}
use Rattle.names.proofs.with_place.Goals as goal

pub slice_bounds-places-end : goal.slice_bounds-places-end
slice_bounds-places-end c = let e : length c.args.list.places ≡ 32 = search rules in omega (arith, places_few c.requires.0)

pub slice_bounds-contains-end : goal.slice_bounds-contains-end
slice_bounds-contains-end c = places_count c.requires.0

pub returns-then-contains : goal.returns-then-contains
returns-then-contains c = with_twice c.args.list c.args.j (sym (found_in c.args.j (places_of c.args.list)) ∙ (sym c.contains.ensures.value ∙ c.if-contains.true))

pub bounds-places-n : goal.bounds-places-n
bounds-places-n c = places_room c.requires.0 c.requires.1 (sym (found_in c.args.j (places_of c.args.list)) ∙ (sym c.contains.ensures.value ∙ c.if-contains.false))

pub overflow_add-result : goal.overflow_add-result
overflow_add-result c = let room : c.args.list.count < 32 = places_room c.requires.0 c.requires.1 (sym (found_in c.args.j (places_of c.args.list)) ∙ (sym c.contains.ensures.value ∙ c.if-contains.false)) in
    search rules

pub returns : goal.returns
returns c = placed c.requires.0 c.requires.1 (sym (found_in c.args.j (places_of c.args.list)) ∙ (sym c.contains.ensures.value ∙ c.if-contains.false))
