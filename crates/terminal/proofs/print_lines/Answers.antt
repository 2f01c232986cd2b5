-- What is printed is what the buffer took of the lines.
use Rattle.std.proofs.Common.{List, ℕ, ap, take, ◌∙◌, sym}
use Rattle.terminal.specs.Shown.{shown_to}
use Rattle.terminal.proofs.PrintLaws.{start}
use Rattle.terminal.proofs.print_lines.Goals as goal

pub returns : goal.returns
returns g c = rw (c.prefix.ensures ∙ start c.put_shown-n.ensures ∙ ap (λ (k : ℕ). take k (shown_to 0 c.args.bytes.now)) (sym c.large_buffer-lines.ensures)) at c.print.ensures.all
