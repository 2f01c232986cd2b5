-- The calls' facts in a chain.
use mathlib.Core.List.{[], ◌∷◌}
use Rattle.output.proofs.OutputLaws.{then, said}
use Rattle.replies.specs.Asking.{asking}
use Rattle.replies.proofs.LineLaws.{ok_line}
use Rattle.replies.proofs.count_line.Goals as goal

pub returns : goal.returns
returns c = said (then c.put_ok-p.ensures (then c.put_arg_number-p.ensures c.put_byte.ensures)) (ok_line (asking _ _) (_ ∷ []) (10 ∷ []))
