-- The text written, and the text that what is left stands for, are the text of the whole.
use mathlib.Core.Path.{◌∙◌}
use Rattle.line.proofs.UnescapeLaws.{put_more}
use Rattle.line.proofs.put_unescaped.Goals as goal

pub loop-meaning-preserved-in-Byte : goal.loop-meaning-preserved-in-Byte
loop-meaning-preserved-in-Byte c = put_more c.loop-meaning.invariant (c.in-Some.ensures.0 ∙ rw c.in-Byte.is) c.put_byte-p.ensures
