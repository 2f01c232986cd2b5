-- Each arm is a row of `round_of`.
use mathlib.Core.Path.{ap, sym}
use borrow.Author.Tests.{ne_eqb}
use Rattle.bench.specs.Runs.{round_of}
use Rattle.bench.proofs.round_of.Goals as goal

pub returns-in-0 : goal.returns-in-0
unfolding round_of
returns-in-0 c = ap round_of (sym c.in-0.is)

pub returns-in-1 : goal.returns-in-1
unfolding round_of
returns-in-1 c = ap round_of (sym c.in-1.is)

pub returns-in-2 : goal.returns-in-2
unfolding round_of
returns-in-2 c = ap round_of (sym c.in-2.is)

pub returns-in_default : goal.returns-in_default
unfolding round_of
returns-in_default c = rw (ne_eqb _ _ c.in_default.in_default-own.rest.0.0.1, ne_eqb _ _ c.in_default.in_default-own.rest.0.1, ne_eqb _ _ c.in_default.in_default-own.rest.1)
