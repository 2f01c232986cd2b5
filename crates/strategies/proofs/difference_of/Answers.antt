-- Each branch is the definition's.
use mathlib.Core.Path.{◌≡◌, sym, ap, ◌∙◌}
use lib.ListN.{get_or}
use Rattle.std.specs.Prelude.{unwrap_or, slice_get}
use Rattle.std.proofs.lemmas.Option.{unwrap_or-slice_get}
use Rattle.machine.specs.Requests.{difference_for, difference_of}
use Rattle.machine.proofs.TestLaws.{cond_true}
use Rattle.strategies.proofs.difference_of.Goals as goal

pub returns-then-is_unsuited : goal.returns-then-is_unsuited
unfolding difference_for difference_of
returns-then-is_unsuited c = sym (cond_true _ _ _ (sym c.is_unsuited.ensures ∙ c.if-is_unsuited.true))

pub returns : goal.returns
unfolding difference_for difference_of
returns c = let got : c.copied.result ≡ slice_get c.args.places.now 0 = c.copied.ensures ∙ c.first.ensures.value in
    let first : c.unwrap_or-first.result ≡ get_or c.args.places.now 0 0 = c.unwrap_or-first.ensures ∙ (ap (λ o. unwrap_or o 0) got ∙ unwrap_or-slice_get c.args.places.now 0 0) in
    rw (c.difference_for.ensures, c.type_at.ensures, sym c.is_unsuited.ensures ∙ c.if-is_unsuited.false, first)
