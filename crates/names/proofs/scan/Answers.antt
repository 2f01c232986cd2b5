-- What is listed of the names passed and what the rest names are what the whole names.
use borrow.Author.Rules.{rules}
use borrow.Author.Tests.{tests}
use mathlib.Core.Path.{◌≡◌}
use lib.Dec.{eqb}
use lib.ListN.{length}
use Rattle.std.proofs.lemmas.Iterator.Consumers.{YieldsList-turn, YieldsList-end}
use Rattle.std.proofs.lemmas.Iterator.Splits.{YieldsList-from_slice_split}
use Rattle.std.proofs.lemmas.List.{length_push}
use Rattle.std.proofs.lemmas.Result.{MatchResult-weaker}
use Rattle.names.proofs.ListingLaws.{gone_on_is}
use Rattle.names.proofs.ScanLaws.{place_found, place_unknown, scanning, scanning_on, scanning_unknown, scanning_end}
use Rattle.names.proofs.scan.Goals as goal

pub names-init : goal.names-init
names-init c = scanning _ _ c.no_places.ensures

pub returns-in_default : goal.returns-in_default
returns-in_default c =
    let t = YieldsList-turn (YieldsList-from_slice_split _ (λ b. eqb b 44) c.args.names.now (cc) (cc) (cc) (λ x b q k. search (rules, tests))) c.names.yielded _ c.names.yielded_by _ _ c.in-Some.name c.in-Some.is c.next.ensures.steps in
    let whole : length c.args.sheet.sensors ≡ 32 = search rules in
    scanning_unknown c.names.invariant t (place_unknown c.args.sheet c.in-Some.name.now whole c.sensors_in-most.ensures c.place_named.ensures c.in_default.is)

pub names-preserved : goal.names-preserved
names-preserved c =
    let t = YieldsList-turn (YieldsList-from_slice_split _ (λ b. eqb b 44) c.args.names.now (cc) (cc) (cc) (λ x b q k. search (rules, tests))) c.names.yielded _ c.names.yielded_by _ _ c.in-Some.name c.in-Some.is c.next.ensures.steps in
    let whole : length c.args.sheet.sensors ≡ 32 = search rules in
    scanning_on c.names.invariant t (place_found c.args.sheet c.in-Some.name.now whole c.sensors_in-most.ensures c.place_named.ensures c.in-Some-place_named.is)
    (gone_on_is c.names.list c.and_then-list.result c.in-Some-place_named.j (MatchResult-weaker c.names.list c.and_then-list.ensures (λ l p. search rules) (λ r e. e))) (length_push c.names.yielded c.in-Some.name)

pub returns-in-None : goal.returns-in-None
returns-in-None c =
    let t = YieldsList-end (YieldsList-from_slice_split _ (λ b. eqb b 44) c.args.names.now (cc) (cc) (cc) (λ x b q k. search (rules, tests))) c.names.yielded _ c.names.yielded_by _ _ c.in-None.is c.next.ensures.steps in
    scanning_end c.names.invariant t.1
