-- The calls' facts in a chain.
use mathlib.Core.List.{[], ◌∷◌}
use Rattle.output.proofs.OutputLaws.{then, said}
use Rattle.machine.specs.Messages.{strategy_text, strategy_kind, parameter_texts, sampling_reply}
use Rattle.replies.specs.Asking.{asking}
use Rattle.replies.proofs.LineLaws.{ok_line, args_ended}
use Rattle.replies.proofs.sampling_line.Goals as goal

pub returns : goal.returns
unfolding sampling_reply
returns c = let s = c.args in
    said (then c.put_ok-p.ensures (then c.put_arg-p.ensures (args_ended (strategy_text (strategy_kind s.strategy) ∷ parameter_texts s.sensor s.strategy) (10 ∷ []) c.put_args_strategy-p.ensures c.put_byte.ensures)))
    (ok_line (asking _ _) (_ ∷ _ ∷ parameter_texts s.sensor s.strategy) (10 ∷ []))
