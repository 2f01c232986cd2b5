-- The text of a stored number by its type.
use Rattle.std.specs.Prelude.{ℕ, cond, List, eqb}
use Rattle.output.specs.Number.{decimal, time, integer, float}

-- 1 integer, 2 float, 3 boolean ("0, 1"), 4 discrete (the option that the number names), 5 timestamp
unfoldable pub value_text : ℕ → List ℕ → ℕ → List ℕ
value_text t option n =
    cond (eqb t 1) (integer n)
    (cond (eqb t 2) (float n)
    (cond (eqb t 3) (decimal n)
    (cond (eqb t 4) option
    (time n))))
