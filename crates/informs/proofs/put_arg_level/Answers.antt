-- The word at the level's place.
use Rattle.texts.specs.Table.{word_of}
use Rattle.machine.specs.Messages.{level_text}
use Rattle.informs.proofs.put_arg_level.Goals as goal

pub returns : goal.returns
unfolding level_text word_of
returns c = rw c.word_of.ensures at c.put_arg.ensures
