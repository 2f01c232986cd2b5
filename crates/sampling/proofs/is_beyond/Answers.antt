-- The quotients compare as the products do.
use borrow.Author.Rules.{rules}
use Rattle.machine.specs.Report.{beyond}
use Rattle.sampling.proofs.WidthLaws.{by_quotients, by_quotient}
use Rattle.sampling.proofs.is_beyond.Goals as goal

pub returns-in-1 : goal.returns-in-1
unfolding beyond
returns-in-1 c = rw c.in-1.is (by_quotient c.args.difference c.args.units)

pub returns-in-2 : goal.returns-in-2
unfolding beyond
returns-in-2 c = rw c.in-2.is (by_quotients c.args.difference c.args.units)

pub returns-in-3 : goal.returns-in-3
unfolding beyond
returns-in-3 c = rw c.in-3.is (by_quotient c.args.difference c.args.units)

pub returns-in-4 : goal.returns-in-4
unfolding beyond
returns-in-4 c = rw c.in-4.is (by_quotient c.args.difference c.args.units)

pub returns-in-5 : goal.returns-in-5
unfolding beyond
returns-in-5 c = rw c.in-5.is (by_quotient c.args.difference c.args.units)

pub returns-in_default : goal.returns-in_default
unfolding beyond
returns-in_default c = search (by_quotient, rules)
