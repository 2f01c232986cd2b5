-- The address of a connected client, and that of an unconnected one, which is empty.
use mathlib.Core.Path.{◌≡◌, refl}
use mathlib.Core.Bool.{Bool, true, false, cond}
use Prim.Native.Nat.{ℕ}
use mathlib.Core.List.{List}
use Rattle.machine.specs.Sheet.{text_ok, graphic}
use Rattle.machine.specs.Range.{client_ok}
use Rattle.rules.proofs.client_ok.Goals as goal

-- by the bounds of an address, or by those of none
by_bounds : (there : Bool) (n : ℕ) (bytes : List ℕ) → text_ok (cond there 1 0) (cond there 48 0) graphic n bytes ≡ cond there (text_ok 1 48 graphic n bytes) (text_ok 0 0 graphic n bytes)
by_bounds true n bytes = refl
by_bounds false n bytes = refl

pub returns : goal.returns
unfolding client_ok
returns c = let client = c.args.client in rw (c.text_ok.ensures, c.bound.ensures, c.bound-2.ensures) (by_bounds client.connected client.address_len client.address)
