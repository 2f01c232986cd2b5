-- The pending bytes are as many as the window has and the buffer holds. Where they fill the buffer, they are the buffer.
use Prim.Native.Nat.{◌-◌}
use native.Mathlib.Omega.{arith}
use Rattle.input.proofs.MoveLaws as move
use Rattle.input.proofs.make_room.Goals as goal

pub returns-then-n-buf : goal.returns-then-n-buf
returns-then-n-buf c = let a = c.args in let all = move.kept_full a.buf.now a.w a.most (c.min-to.result - c.min-from.result) (omega arith) c.if-n-buf.true c.min.result c.min.ensures in record {
  value = all.0;
  buf_after = all.1;
}

pub returns : goal.returns
returns c = let a = c.args in let all = move.kept_copied a.buf.now a.w a.most (c.min-to.result - c.min-from.result) (omega arith) c.min-from.result (λ h. omega arith) (omega arith) c.if-n-buf.false c.copy_within.new.self c.copy_within.ensures.after in record {
  value = all.0;
  buf_after = all.1;
}
