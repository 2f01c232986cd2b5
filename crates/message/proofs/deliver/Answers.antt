-- The calls' facts in a chain.
use Rattle.message.proofs.DeliveryLaws.{delivered, one, within, kept}
use native.Mathlib.Omega.{arith}
use Rattle.message.proofs.deliver.Goals as goal

pub overflow_add-result : goal.overflow_add-result
overflow_add-result c = let h = within (one (delivered c.args.out.now _ _ _ _ _ _ _ c.line_start-start.result c.line_start-start.ensures c.put_line-n.ensures c.put_header-p.ensures)) in omega arith

pub shape_of-out : goal.shape_of-out
shape_of-out c = kept (one (delivered c.args.out.now _ _ _ _ _ _ _ c.line_start-start.result c.line_start-start.ensures c.put_line-n.ensures c.put_header-p.ensures))

pub returns : goal.returns
returns c = one (delivered c.args.out.now _ _ _ _ _ _ _ c.line_start-start.result c.line_start-start.ensures c.put_line-n.ensures c.put_header-p.ensures)
