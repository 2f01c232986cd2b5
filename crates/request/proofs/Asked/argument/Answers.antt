-- The text of an argument is no longer than its line, so it fits.
use Rattle.request.proofs.ReadLaws.{short}
use Rattle.request.proofs.RowLaws.{copied_never, copied_argument}
use Rattle.request.proofs.Asked.argument.Goals as goal

pub returns-in_default : goal.returns-in_default
returns-in_default c = copied_never c.args.self.line.now c.args.k c.args.into.now (short c.args.self.line.now c.args.self.head c.args.self.read, c.requires) (c.argument.ensures.value, c.argument.ensures.into_after) c.in_default.is

pub returns : goal.returns
returns c =
    let all = copied_argument c.args.self.line.now c.args.k c.args.into.now (short c.args.self.line.now c.args.self.head c.args.self.read, c.requires) (c.argument.ensures.value, c.argument.ensures.into_after) c.in-Some.is in
    record { into_after = all.0; upper_bound = all.1 }
