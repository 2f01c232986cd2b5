-- The clients with one stored anew and the subscriptions without its own.
use Prim.Native.Nat.{◌<◌}
use native.Mathlib.Omega.{arith}
use mathlib.Core.Path.{◌≡◌}
use lib.ListN.{length}
use borrow.Author.Rules.{rules}
use Rattle.machine.specs.State.{no_client, with_client}
use Rattle.machine.proofs.StoreLaws.{set_by_place}
use Rattle.device.proofs.with_client.Goals as goal

pub returns : goal.returns
unfolding with_client
returns c = let a = c.args in
    let h : a.client < 8 = c.requires in
    let e : length a.state.clients ≡ 8 = search rules in
    rw (c.clear_client.ensures, set_by_place a.state.clients a.client a.k no_client (omega arith), e)
