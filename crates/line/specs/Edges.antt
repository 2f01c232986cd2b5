-- The starred line cases of document 01's Edges.
use Rattle.std.specs.Prelude.{ℕ, ◌≡◌, List, [], ◌∷◌}
use Prim.Native.Char.{code}
use Rattle.output.specs.Text.{text}
use Rattle.message.specs.Message.{Message, write}
use Rattle.line.specs.Line.{malformed, message, parse}

-- the request `a`
abbrev request : ℕ → List (List ℕ) → Message
request id args = record { kind = code "?"; name = text "a"; id = id; args = args }

-- "*`[2147483647]` read, *`[2147483648]` 12. *`a\@b` is `ab`, *empty writes `\@`"
pub record LineEdges : Type 0 where
  pub largest_id : parse (text "?a[2147483647]") ≡ message (request 2147483647 [])
  pub larger_id : parse (text "?a[2147483648]") ≡ malformed
  pub nothing_within : parse (text "?a a\\@b") ≡ message (request 0 (text "ab" ∷ []))
  pub empty_argument : write (request 0 ([] ∷ [])) ≡ text "?a \\@"
