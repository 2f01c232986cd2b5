-- What stands behind the minus, or all, is counted up to the bias.
use Rattle.numbers.proofs.NumberLaws as number
use Rattle.numbers.proofs.signed_of.Goals as goal

pub returns-then-t-eq0 : goal.returns-then-t-eq0
returns-then-t-eq0 c = let a = c.args in number.signed_none a.bias a.base a.t.now c.if-t-eq0.true

pub returns-then-t-eq45 : goal.returns-then-t-eq45
returns-then-t-eq45 c = let a = c.args in
    number.signed_minus a.bias a.base a.t.now c.if-t-eq0.false c.if-t-eq45.true c.parts_of.ensures c.min.ensures

pub returns : goal.returns
returns c = let a = c.args in
    number.signed_plus a.bias a.base a.t.now c.if-t-eq0.false c.if-t-eq45.false c.parts_of-2.ensures c.min-2.ensures
