-- A parameter that cannot be read.
use Prim.Native.Nat.{ℕ}
use mathlib.Core.Path.{◌≡◌, refl}
use Rattle.std.specs.Prelude.{Option, Some, None, is_none}
use Rattle.machine.specs.Requests.{is_bad}

pub none_bad : (o : Option ℕ) → is_none o ≡ is_bad o
none_bad (Some n) = refl
none_bad None = refl
