-- All bytes are blank where the blanks at the start are as many as the bytes.
use Rattle.line.specs.Line.{blank, blank_line}
use Rattle.output.proofs.RunLaws.{run_whole}
use Rattle.line.proofs.is_blank.Goals as goal

pub returns : goal.returns
unfolding blank_line
returns c = rw (← run_whole blank c.args.line.now, c.lead.ensures)
