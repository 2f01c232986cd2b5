-- The word at the kind's place.
use Rattle.strategies.proofs.KindLaws.{word_is}
use Rattle.strategies.proofs.put_arg_word.Goals as goal

pub returns : goal.returns
returns c = rw (word_is c.word_of.ensures c.place.ensures) at c.put_arg.ensures
