-- The arguments of a line by their places.
use Rattle.std.specs.Prelude.{ℕ, cond, List, [], leb, length, get_or, Some, None, Option}
use Rattle.output.specs.Output.{laid}
use Rattle.line.specs.Line.{unescape, behind}

-- the text of argument k, empty where there is none
abbrev pub argument : List ℕ → ℕ → List ℕ
argument s k = unescape (get_or (behind s) k [])

-- a text copied into a buffer: its length, or that the buffer is too short
unfoldable pub copied : List ℕ → List ℕ → Option ℕ
copied t into = cond (leb (length t) (length into)) (Some (length t)) None

-- the buffer then: the text at its start; as it was where it is too short
unfoldable pub copied_into : List ℕ → List ℕ → List ℕ
copied_into t into = cond (leb (length t) (length into)) (laid t into) into
