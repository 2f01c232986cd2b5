-- The names give the places, the arguments behind them the strategy, and no row declines either.
use mathlib.Core.Path.{refl, ◌∙◌}
use Rattle.request.proofs.SampledLaws.{Scan, scan_ok, scan_is, setting_ok, queried, set_to}
use Rattle.request.proofs.sensor_sampling.Goals as goal

pub unwrap-list-requires : goal.unwrap-list-requires
unwrap-list-requires c = scan_ok c.requires c.argument-len.ensures.into_after c.scan.ensures

pub query-requires : goal.query-requires
query-requires c = let own : Scan c.args.state c.args.asked.line.now c.unwrap-list.result = scan_is c.requires c.argument-len.ensures.into_after c.scan.ensures c.unwrap-list.ensures in
    (c.requires.heard.client, own.first_below_lem)

pub returns-then-asked-eq1 : goal.returns-then-asked-eq1
returns-then-asked-eq1 c = let own : Scan c.args.state c.args.asked.line.now c.unwrap-list.result = scan_is c.requires c.argument-len.ensures.into_after c.scan.ensures c.unwrap-list.ensures in
    queried c.requires c.name-name.ensures refl c.argument-len.ensures.into_after c.if-asked-eq1.true own.first_is c.query.ensures

pub unwrap-strategy-requires : goal.unwrap-strategy-requires
unwrap-strategy-requires c = let own : Scan c.args.state c.args.asked.line.now c.unwrap-list.result = scan_is c.requires c.argument-len.ensures.into_after c.scan.ensures c.unwrap-list.ensures in
    setting_ok c.requires c.if-asked-eq1.false (c.places-places.ensures ∙ own.are) c.setting_asked.result c.setting_asked.ensures.number

pub set-requires : goal.set-requires
set-requires c = let own : Scan c.args.state c.args.asked.line.now c.unwrap-list.result = scan_is c.requires c.argument-len.ensures.into_after c.scan.ensures c.unwrap-list.ensures in
    (c.requires.heard.client, (rw c.places-places.ensures own.below, rw c.places-places.ensures own.some))

pub returns : goal.returns
returns c = let own : Scan c.args.state c.args.asked.line.now c.unwrap-list.result = scan_is c.requires c.argument-len.ensures.into_after c.scan.ensures c.unwrap-list.ensures in
    set_to c.requires c.name-name.ensures refl c.argument-len.ensures.into_after c.if-asked-eq1.false (c.places-places.ensures ∙ own.are) c.setting_asked.ensures.strategy c.unwrap-strategy.ensures c.set.ensures
