-- Where the keys of the options stand once each, the options are apart.
use native.Mathlib.Omega.{arith}
use mathlib.Core.Path.{◌≡◌, sym, ◌∙◌}
use lib.ListN.{length}
use borrow.Author.Rules.{rules}
use Rattle.rules.proofs.KeyLaws.{choices_by_keys, once_each}
use Rattle.rules.proofs.choices_apart.Goals as goal

pub returns-then-keys_apart : goal.returns-then-keys_apart
returns-then-keys_apart c =
    let keys = c.choice_keys-keys.result in
    let long : length keys ≡ 32 = search rules in
    let once = once_each keys c.from.result c.keys_apart.result (omega arith) c.keys_apart.ensures in
    sym (choices_by_keys c.args.count c.args.options c.requires (rw (c.choice_keys-keys.ensures, c.from.ensures) at (sym once ∙ c.if-keys_apart.true)))
