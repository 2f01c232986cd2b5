-- The status of a sample (document 01, "Values"), by the numbers of the guideline's Table 8: 0 unknown, 1 nominal, 2 warn, 3 error, 4 failure,
-- 5 unreachable, 6 inactive.
use Rattle.std.specs.Prelude.{ℕ, Bool, cond, ◌&&◌, ◌||◌, List, [], ◌∷◌, eqb, leb, get_or}
use Rattle.output.specs.Text.{text}
use Rattle.value.specs.declared.Limits.{Limits}
use Rattle.value.specs.declared.Sample.{Sample}

-- inside a range, "ends included"
abbrev pub inside : ℕ → ℕ → ℕ → Bool
inside least most n = leb least n && leb n most

-- a valid value is nominal: "nominal inside", "without limits nominal"
abbrev pub is_nominal : Limits → ℕ → Bool
is_nominal l n = eqb l.count 0 || inside l.nominal_min l.nominal_max n

-- outside that, it is warn: "warn between nominal and warn range", "with two limits warn outside"
abbrev pub is_warn : Limits → ℕ → Bool
is_warn l n = eqb l.count 2 || inside l.warn_min l.warn_max n

-- "Status follows the range": "error beyond"
abbrev pub range_status : Limits → ℕ → ℕ
range_status l n = cond (is_nominal l n) 1 (cond (is_warn l n) 2 3)

-- by the sample's kind
unfoldable pub status_of : Limits → Sample → ℕ
status_of l s =
    cond (eqb s.kind 0) 0
    (cond (eqb s.kind 1) (range_status l s.number)
    (cond (eqb s.kind 2) 4
    (cond (eqb s.kind 3) 5
    6)))

-- the words of Table 8
unfoldable pub status_text : ℕ → List ℕ
status_text s =
    get_or (text "unknown" ∷ text "nominal" ∷ text "warn" ∷ text "error" ∷ text "failure" ∷ text "unreachable" ∷ []) s (text "inactive")
