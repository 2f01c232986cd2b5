-- What an answer needs of its request, and whom it tells of.
use Rattle.std.specs.Prelude.{ℕ, Bool, cond, List, [], ◌∷◌, map}
use Prim.Native.Char.{code}
use Rattle.message.specs.Message.{Message, message}
use Rattle.machine.specs.Requests.{Row, shown_rows}

-- "Replies keep name and id": a request of that name and id, whatever its arguments
abbrev pub asking : List ℕ → ℕ → Message
asking name id = message (code "?") name id []

-- the requests that `help` tells of: the one that is named, or all that a profile has
abbrev pub names_told : ℕ → Bool → List ℕ → List (List ℕ)
names_told profile named name = cond named (name ∷ []) (map (λ (r : Row). r.name) (shown_rows profile))
