-- What is lent is the output at hand, or as much of it as the line says.
use native.Mathlib.Omega.{arith}
use mathlib.Core.Path.{sym}
use lib.Seq.{length-take-le}
use Rattle.script.proofs.ReplayLaws.{too_long, made}
use Rattle.script.proofs.perform.Goals as goal

pub returns-then-line-gt-LONGEST_LINE : goal.returns-then-line-gt-LONGEST_LINE
returns-then-line-gt-LONGEST_LINE c = let s = c.args in let all = too_long s.state s.line.now s.out.now c.if-line-gt-LONGEST_LINE.true c.silent.ensures in record {
  value = all.0;
  out_after = all.1;
}

pub slice_bounds-carry_out-end-2 : goal.slice_bounds-carry_out-end-2
slice_bounds-carry_out-end-2 c = sym (length-take-le _ _ (omega arith))

pub returns : goal.returns
returns c = let s = c.args in let all = made s.state s.line.now s.out.now c.command_of-command.ensures c.lent_len-n.ensures (c.carry_out-answer.ensures.value, c.carry_out-answer.ensures.out_after) in record {
  value = all.0;
  out_after = all.1;
}
