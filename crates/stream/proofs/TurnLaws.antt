-- A loop goes on while there is more to do, and counts its turns down.
use Prim.Native.Nat.{ℕ, ◌<◌}
use mathlib.Core.Path.{◌≡◌}
use mathlib.Core.Bool.{Bool, true, ◌&&◌, and-eq-true_iff}
use borrow.Author.Tests.{ltb-true}
use lib.Dec.{ltb}

-- a turn is left
pub turn_left : (more : Bool) (turns : ℕ) → more && ltb 0 turns ≡ true → 0 < turns
turn_left more turns h = ltb-true 0 turns ((and-eq-true_iff more (ltb 0 turns)).0 h).1
