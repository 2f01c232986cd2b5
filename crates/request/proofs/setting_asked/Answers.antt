-- The three texts are the arguments behind the strategy's word.
use mathlib.Core.Path.{◌∙◌}
use Rattle.std.proofs.lemmas.Result.{IfOk-weaker}
use Rattle.request.proofs.RowLaws.{setting_asked, strategy_asked}
use Rattle.request.proofs.setting_asked.Goals as goal

pub returns : goal.returns
returns c = record {
  number = c.read_setting.ensures.number ∙ setting_asked c.args.asked.line.now c.args.asked.head c.args.asked.read c.args.sheet c.args.places.now c.argument-w.ensures.into_after c.argument-a.ensures.into_after c.argument-b.ensures.into_after c.argument-c.ensures.into_after c.strategy_named.ensures;
  strategy = IfOk-weaker c.read_setting.result _ _ (λ st e. e ∙ strategy_asked c.args.asked.line.now c.args.asked.head c.args.asked.read c.args.sheet c.args.places.now c.argument-w.ensures.into_after c.argument-a.ensures.into_after c.argument-b.ensures.into_after c.argument-c.ensures.into_after c.strategy_named.ensures) c.read_setting.ensures.strategy;
}
