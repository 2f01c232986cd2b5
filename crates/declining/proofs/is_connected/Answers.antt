-- A place below 8 is the client's; past the clients none is connected.
use mathlib.Core.Path.{◌≡◌, sym, ap}
use native.Mathlib.Omega.{arith}
use lib.ListN.{length, get_or-eq_default}
use borrow.Author.Rules.{rules}
use Rattle.machine.specs.declared.Client.{Client}
use Rattle.machine.specs.State.{no_client}
use Rattle.declining.proofs.is_connected.Goals as goal

pub returns : goal.returns
returns c = let e : length c.args.clients ≡ 8 = search rules in
    sym (ap (λ (k : Client). k.connected) (get_or-eq_default c.args.clients no_client (omega (arith, c.if-client-lt-CLIENTS.false))))
