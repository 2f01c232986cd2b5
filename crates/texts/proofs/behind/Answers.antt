-- The first `stop` is the first byte behind those before it.
use Prim.Native.Nat.{ℕ}
use mathlib.Core.Path.{ap, ◌∙◌}
use lib.ListN.{drop}
use Rattle.output.specs.Read.{other}
use Rattle.output.proofs.RunLaws.{run_drop}
use Rattle.texts.proofs.behind.Goals as goal

pub returns : goal.returns
returns c = let s = c.args.s.now in
    c.rest-2.ensures ∙ ap (drop 1) (c.rest.ensures ∙ ap (λ (n : ℕ). drop n s) c.len_before.ensures ∙ run_drop (other c.args.stop) s)
