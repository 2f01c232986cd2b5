-- The reply, then the reports; the state is that with the strategy set.
use Prim.Native.Nat.{◌<◌}
use mathlib.Core.Path.{refl}
use lib.ListN.{get_or}
use Rattle.message.proofs.DeliveryLaws.{and}
use Rattle.machine.specs.Messages.{sampling_reply}
use Rattle.machine.specs.Requests.{sampled_sends}
use Rattle.request.proofs.PassLaws.{each_at}
use Rattle.request.proofs.GivenLaws.{answered_is}
use borrow.Author.Rules.{rules}
use Rattle.request.proofs.set.Goals as goal

pub overflow_cast-sensor : goal.overflow_cast-sensor
overflow_cast-sensor c = let first : get_or c.args.places.now 0 0 < 32 = each_at (λ j. j < 32) c.args.places.now 0 c.requires.1.0 c.requires.1.1 in
    let l = first in search rules

pub offset_bounds-sheet-places : goal.offset_bounds-sheet-places
offset_bounds-sheet-places c = let first : get_or c.args.places.now 0 0 < 32 = each_at (λ j. j < 32) c.args.places.now 0 c.requires.1.0 c.requires.1.1 in
    let l = first in search rules

pub bounds-sheet-places : goal.bounds-sheet-places
bounds-sheet-places c = let first : get_or c.args.places.now 0 0 < 32 = each_at (λ j. j < 32) c.args.places.now 0 c.requires.1.0 c.requires.1.1 in
    let l = first in search rules

pub returns : goal.returns
unfolding sampled_sends sampling_reply
returns c = answered_is c.answered.ensures refl c.set_all.ensures (and c.deliver_sampling-p.ensures c.tell_set-written.ensures)
