-- A name is looked up only where one is given.
use Rattle.request.proofs.RowLaws.{help_all, help_named}
use Rattle.request.proofs.help_row.Goals as goal

pub returns-then-asked-eq0 : goal.returns-then-asked-eq0
returns-then-asked-eq0 c = help_all c.args.asked.line.now c.args.asked.head c.args.asked.read c.args.profile c.if-asked-eq0.true

pub returns-in_default : goal.returns-in_default
returns-in_default c = help_named c.args.asked.line.now c.args.asked.head c.args.asked.read c.argument-n.ensures.into_after c.if-asked-eq0.false c.args.profile c.request_named.ensures c.in_default.is

pub returns : goal.returns
returns c = help_named c.args.asked.line.now c.args.asked.head c.args.asked.read c.argument-n.ensures.into_after c.if-asked-eq0.false c.args.profile c.request_named.ensures c.in-Some.is
