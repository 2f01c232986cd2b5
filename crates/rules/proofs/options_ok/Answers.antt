-- By the count: no options, too many, or each by its rules and apart.
use native.Mathlib.Omega.{arith}
use Rattle.rules.proofs.ElementLaws.{options_long}
use Rattle.rules.proofs.OptionLaws.{options_none, options_many}
use Rattle.rules.proofs.DistinctLaws.{options_are}
use Rattle.rules.proofs.options_ok.Goals as goal

pub returns-then-count-eq0 : goal.returns-then-count-eq0
returns-then-count-eq0 c = rw (c.is_discrete-discrete.ensures, c.choices_none.ensures) (options_none c.args.sensor c.if-count-eq0.true)

pub returns-then-count-gt-MOST_OPTIONS : goal.returns-then-count-gt-MOST_OPTIONS
returns-then-count-gt-MOST_OPTIONS c = options_many c.args.sensor c.if-count-gt-MOST_OPTIONS.true

pub returns : goal.returns
returns c = rw (c.is_discrete-discrete.ensures, c.choices_ok-each.ensures, c.choices_apart-apart.ensures)
    (options_are c.args.sensor (omega arith) (omega arith) (options_long c.args.sensor _ c.well_formed.0))
