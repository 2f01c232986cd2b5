-- An input that was read to its end.
use Rattle.std.specs.Prelude.{ℕ, ◌<◌, ◌≡◌, ⊤, List, length, take, Option, Result, Ok, Err, IfSome}
use Rattle.io.specs.Counts.{IsPrefixLen}
use Rattle.stream.specs.declared.ReadFault.{ReadFault}

-- the bytes that are all of the input stand at the start of the buffer, which has room left: a full one says nothing of the end
abbrev pub Within : List ℕ → Result ℕ ReadFault → Type 0
Within buf (Ok n) = IsPrefixLen n buf × (n < length buf)
Within buf (Err fault) = ⊤

-- the known bytes of an input are those at the start of the buffer, where they are said to be all of it
abbrev pub AllOf : Option (List ℕ) → List ℕ → Result ℕ ReadFault → Type 0
AllOf known buf (Ok n) = IfSome known (λ xs. xs ≡ take n buf)
AllOf known buf (Err fault) = ⊤
