-- Nothing where no client is there; else the reason, as it stands in the buffer.
use borrow.Author.Tests.{not-false}
use mathlib.Core.Path.{ap, sym}
use mathlib.Core.Bool.{not}
use lib.Seq.{length-take-le}
use Rattle.device.proofs.ReasonLaws.{Reason, reason}
use Rattle.device.proofs.displace.Goals as goal

pub slice_bounds-why-end : goal.slice_bounds-why-end
slice_bounds-why-end c = let told : Reason c.args.address.now c.put_bytes-n.new.out c.put_bytes-n.result = reason c.requires c.put_bytes-p.ensures c.put_bytes-n.ensures in
    told.inside

pub slice_bounds-deliver-end-2 : goal.slice_bounds-deliver-end-2
slice_bounds-deliver-end-2 c = let told : Reason c.args.address.now c.put_bytes-n.new.out c.put_bytes-n.result = reason c.requires c.put_bytes-p.ensures c.put_bytes-n.ensures in
    sym (length-take-le _ _ told.inside)

pub returns : goal.returns
returns c = let told : Reason c.args.address.now c.put_bytes-n.new.out c.put_bytes-n.result = reason c.requires c.put_bytes-p.ensures c.put_bytes-n.ensures in
    rw (not-false c.args.there (ap not c.if-not-there.false)) (rw told.is at c.deliver.ensures)
