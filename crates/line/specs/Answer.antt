-- What the code answers, in numbers, and document 01's number for it.
use Rattle.std.specs.Prelude.{ℕ, cond, List, [], ◌∷◌, length, None, Some, Option}
use Rattle.output.specs.Text.{run}
use Rattle.message.specs.Message.{Message}
use Rattle.line.specs.declared.Header.{Header}
use Rattle.line.specs.Line.{Parse, malformed, message, kind_byte, name_of, after_name, name_ok, id_of, all_valid, blank}

-- the numbers of a message
abbrev pub header : Message → Header
header m = record { kind = m.kind; name = length m.name; id = m.id; count = length m.args }

-- what the code answers for a line
abbrev pub answer : Parse → Option Header
answer malformed = None
answer (message m) = Some (header m)

-- document 01's number for each answer: "line over 2,048 or no message", 12
abbrev pub parsed_number : Option Header → ℕ
parsed_number None = 12
parsed_number (Some h) = 0

-- the same answer from the parts of a line, as the code finds them

-- by the identifier
abbrev pub with_id_read : ℕ → ℕ → ℕ → Option ℕ → Option Header
with_id_read k n count None = None
with_id_read k n count (Some i) = Some (record { kind = k; name = n; id = i; count = count })

-- t is what follows the kind byte k in the first word; the arguments are count words that are valid
abbrev pub named_read : ℕ → List ℕ → ℕ → Option Header
named_read k t count = cond (name_ok (name_of t)) (with_id_read k (length (name_of t)) count (id_of (after_name t))) None

-- by the first word
abbrev pub head_read : List ℕ → ℕ → Option Header
head_read [] count = None
head_read (k ∷ t) count = cond (kind_byte k) (named_read k t count) None

-- the number of the words, where each is valid
abbrev pub count_of : List (List ℕ) → Option ℕ
count_of ws = cond (all_valid ws) (Some (length ws)) None

-- how many spaces and tabs a list starts with
abbrev pub lead : List ℕ → ℕ
lead s = length (run blank s)
