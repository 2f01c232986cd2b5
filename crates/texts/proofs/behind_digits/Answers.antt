-- What stands behind as many bytes as the run of digits has.
use Prim.Native.Nat.{ℕ}
use mathlib.Core.Path.{ap, ◌∙◌}
use lib.ListN.{drop}
use Rattle.output.specs.Text.{is_digit}
use Rattle.output.proofs.RunLaws.{run_drop}
use Rattle.texts.proofs.behind_digits.Goals as goal

pub returns : goal.returns
returns c = let s = c.args.s.now in c.rest.ensures ∙ ap (λ (n : ℕ). drop n s) c.digits_len.ensures ∙ run_drop is_digit s
