-- The digits on both sides of the point, without as many as stand behind it.
use Rattle.numbers.proofs.NumberLaws as number
use Rattle.numbers.proofs.parts_of.Goals as goal

pub overflow_mul-all : goal.overflow_mul-all
overflow_mul-all c = record { fits = number.capped_fits c.args.base _ c.requires c.both_value-all.ensures }

pub returns : goal.returns
returns c = number.parts_held c.args.base c.args.t.now c.len_before.ensures c.prefix-whole.ensures c.behind-fraction.ensures c.both_value-all.ensures c.without_digits.ensures
