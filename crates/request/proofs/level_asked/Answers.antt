-- The level of the word that is the first argument.
use Rattle.request.proofs.RowLaws.{level_fits, level_kept, level_declined, level_given}
use Rattle.request.proofs.level_asked.Goals as goal

pub returns-then-asked-eq0 : goal.returns-then-asked-eq0
returns-then-asked-eq0 c = record {
  number = level_fits c.args.asked.line.now c.args.asked.head c.args.asked.read c.if-asked-eq0.true;
  level = level_kept c.args.asked.line.now c.args.asked.head c.args.asked.read c.args.level c.if-asked-eq0.true;
}

pub returns : goal.returns
returns c = record {
  number = level_declined c.args.asked.line.now c.args.asked.head c.args.asked.read c.argument-n.ensures.into_after c.if-asked-eq0.false c.level_named.ensures c.ok_or.ensures.value;
  level = level_given c.args.asked.line.now c.args.asked.head c.args.asked.read c.argument-n.ensures.into_after c.if-asked-eq0.false c.level_named.ensures c.ok_or.ensures.value c.args.level;
}
