-- As many bytes as the run of digits has.
use Prim.Native.Nat.{ℕ}
use mathlib.Core.Path.{ap, ◌∙◌}
use lib.ListN.{take}
use Rattle.output.specs.Text.{is_digit}
use Rattle.output.proofs.RunLaws.{run_take}
use Rattle.texts.proofs.digits.Goals as goal

pub returns : goal.returns
returns c = let s = c.args.s.now in c.prefix.ensures ∙ ap (λ (n : ℕ). take n s) c.digits_len.ensures ∙ run_take is_digit s
