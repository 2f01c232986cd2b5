-- A name that is too long, empty or starts with no letter is refused; else the identifier decides.
use Rattle.std.specs.Prelude.{None, Some}
use borrow.Author.Rules.{rules}
use mathlib.Core.Path.{sym, ap, ◌∙◌}
use native.Mathlib.Omega.{arith}
use Rattle.output.proofs.RunLaws.{run_le}
use Rattle.line.specs.Line.{title_byte, id_of}
use Rattle.texts.proofs.At.{to_end}
use Rattle.line.proofs.HeadLaws as H
use Rattle.line.proofs.named.Goals as goal

pub returns-then-n-gt64 : goal.returns-then-n-gt64
returns-then-n-gt64 c = search (H.long, rules)

pub returns-then-n-eq0 : goal.returns-then-n-eq0
returns-then-n-eq0 c = search (H.empty, rules)

pub bounds-t-0 : goal.bounds-t-0
bounds-t-0 c = omega (arith, run_le title_byte c.args.t.now, c.name_len-n.ensures, c.if-n-eq0.false)

pub returns-then-not-is_letter : goal.returns-then-not-is_letter
returns-then-not-is_letter c = H.not_letter c.args.t.now c.args.kind c.args.count c.name_len-n.result c.name_len-n.ensures c.if-n-eq0.false (sym c.is_letter.ensures ∙ c.if-not-is_letter.true)

pub slice_bounds-id_of-count : goal.slice_bounds-id_of-count
slice_bounds-id_of-count c = omega (arith, run_le title_byte c.args.t.now, c.name_len-n.ensures)

pub slice_bounds-id_of-start : goal.slice_bounds-id_of-start
slice_bounds-id_of-start c = omega (arith, run_le title_byte c.args.t.now, c.name_len-n.ensures)

pub returns-in_err-id : goal.returns-in_err-id
returns-in_err-id c = c.from_residual.ensures ∙ H.decides c.args.t.now c.args.kind c.args.count c.name_len-n.result c.name_len-n.ensures (omega arith) c.if-n-eq0.false (sym c.is_letter.ensures ∙ c.if-not-is_letter.false) None (sym c.in_err-id.was ∙ c.id_of.ensures ∙ ap id_of (to_end c.args.t.now c.name_len-n.result))

pub returns : goal.returns
returns c = H.decides c.args.t.now c.args.kind c.args.count c.name_len-n.result c.name_len-n.ensures (omega arith) c.if-n-eq0.false (sym c.is_letter.ensures ∙ c.if-not-is_letter.false) (Some c.in_ok-id.id) (sym c.in_ok-id.was ∙ c.id_of.ensures ∙ ap id_of (to_end c.args.t.now c.name_len-n.result))
