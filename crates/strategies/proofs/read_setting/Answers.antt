-- Each return stands behind the tests of the rows before its own.
use native.Mathlib.Omega.{arith}
use Rattle.strategies.specs.Settings.{kind_number}
use Rattle.strategies.proofs.KindLaws.{kind_known}
use Rattle.strategies.proofs.SettingLaws.{suited, declined_17, declined_15, declined_18, declined_19, declined_20, not_declined, strategy_is}
use Rattle.strategies.proofs.read_setting.Goals as goal

pub returns-in_default-clause-number : goal.returns-in_default-clause-number
returns-in_default-clause-number c = rw c.in_default.is (declined_17 _ _ 7 _ _ (omega arith))

pub returns-then-count-parameter_count-clause-number : goal.returns-then-count-parameter_count-clause-number
returns-then-count-parameter_count-clause-number c = let k = c.in-Some.kind in
    rw c.in-Some.is (declined_15 _ _ (kind_number k) _ _ (kind_known k) c.parameter_count.ensures c.if-count-parameter_count.true)

pub returns-then-is_by_difference-is_unmeasured-clause-number : goal.returns-then-is_by_difference-is_unmeasured-clause-number
returns-then-is_by_difference-is_unmeasured-clause-number c = let k = c.in-Some.kind in
    rw c.in-Some.is (declined_18 _ _ (kind_number k) _ _ (kind_known k) c.parameter_count.ensures c.if-count-parameter_count.false c.is_by_difference.ensures c.is_unmeasured.ensures c.if-is_by_difference-is_unmeasured.true)

pub returns-in_default-make-clause-number : goal.returns-in_default-make-clause-number
returns-in_default-make-clause-number c = let k = c.in-Some.kind in
    let suits = suited c.args.sheet c.args.places.now (kind_number k) c.args.count (kind_known k) c.parameter_count.ensures c.if-count-parameter_count.false c.is_by_difference.ensures c.is_unmeasured.ensures c.if-is_by_difference-is_unmeasured.false in
    rw c.in-Some.is (declined_19 _ _ (kind_number k) _ _ suits c.make.ensures c.in_default-make.is)

pub returns-then-is_reversed-clause-number : goal.returns-then-is_reversed-clause-number
returns-then-is_reversed-clause-number c = let k = c.in-Some.kind in
    let suits = suited c.args.sheet c.args.places.now (kind_number k) c.args.count (kind_known k) c.parameter_count.ensures c.if-count-parameter_count.false c.is_by_difference.ensures c.is_unmeasured.ensures c.if-is_by_difference-is_unmeasured.false in
    rw c.in-Some.is (declined_20 _ _ (kind_number k) _ _ suits c.make.ensures c.in-Some-make.is c.is_reversed.ensures c.if-is_reversed.true)

pub returns-clause-number : goal.returns-clause-number
returns-clause-number c = let k = c.in-Some.kind in
    let suits = suited c.args.sheet c.args.places.now (kind_number k) c.args.count (kind_known k) c.parameter_count.ensures c.if-count-parameter_count.false c.is_by_difference.ensures c.is_unmeasured.ensures c.if-is_by_difference-is_unmeasured.false in
    rw c.in-Some.is (not_declined _ _ (kind_number k) _ _ suits c.make.ensures c.in-Some-make.is c.is_reversed.ensures c.if-is_reversed.false)

pub returns-clause-strategy : goal.returns-clause-strategy
returns-clause-strategy c = rw c.in-Some.is (strategy_is _ _ (kind_number c.in-Some.kind) _ c.make.ensures c.in-Some-make.is)
