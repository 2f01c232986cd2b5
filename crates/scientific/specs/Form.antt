-- What is claimed of the form: a text has it exactly where it is put together so, and the parts that are read are those that it is put together of.
use Rattle.std.specs.Prelude.{ℕ, ◌≤◌, ◌≡◌, ◌⊎◌, true, cond, List, [], ◌++◌, length}
use Rattle.output.specs.Text.{text, same, is_digit, all}
use Rattle.output.specs.Read.{value_from}
use Rattle.scientific.specs.Decimal as decimal
use Rattle.scientific.specs.Decimal.{is_minus, raised, lowered, whole_digits, fraction_digits, is_scientific}

-- a sign if any
abbrev pub IsSign : List ℕ → Type 0
IsSign s = (s ≡ []) ⊎ ((s ≡ text "+") ⊎ (s ≡ text "-"))

-- "an exponent (`e` or `E`, a sign if any, one to three digits)"
pub record Exponent (e : List ℕ) : Type 0 where
  pub mark : List ℕ
  pub sign : List ℕ
  pub size : List ℕ
  pub together : e ≡ mark ++ (sign ++ size)
  pub a_mark : (mark ≡ text "e") ⊎ (mark ≡ text "E")
  pub a_sign : IsSign sign
  pub digits : all is_digit size ≡ true
  pub one : 1 ≤ length size
  pub to_three : length size ≤ 3

-- a sign if any, digits, a point if any and digits behind it, not without a digit, and an exponent if any: nothing before, between or behind
pub record Spelling (t : List ℕ) : Type 0 where
  pub sign : List ℕ
  pub whole : List ℕ
  pub point : List ℕ
  pub fraction : List ℕ
  pub exponent : List ℕ
  pub together : t ≡ sign ++ (whole ++ (point ++ (fraction ++ exponent)))
  pub a_sign : IsSign sign
  pub before : all is_digit whole ≡ true
  pub a_point : ((point ≡ []) × (fraction ≡ [])) ⊎ (point ≡ text ".")
  pub behind : all is_digit fraction ≡ true
  pub a_digit : 1 ≤ length (whole ++ fraction)
  pub an_exponent : (exponent ≡ []) ⊎ Exponent exponent

-- a text that is put together so has the form, and these parts
pub record ReadAs (t : List ℕ) (s : Spelling t) : Type 0 where
  pub form : is_scientific t ≡ true
  pub minus : is_minus t ≡ same s.sign (text "-")
  pub whole : whole_digits t ≡ s.whole
  pub fraction : fraction_digits t ≡ s.fraction
  pub exponent : decimal.exponent t ≡ s.exponent

-- an exponent moves the point by its digits' number, with a minus to the left
pub record Moves (e : List ℕ) (x : Exponent e) : Type 0 where
  pub right : raised e ≡ cond (same x.sign (text "-")) 0 (value_from 0 x.size)
  pub left : lowered e ≡ cond (same x.sign (text "-")) (value_from 0 x.size) 0

pub record Form : Type 0 where
  pub every : (t : List ℕ) (s : Spelling t) → ReadAs t s
  pub only : (t : List ℕ) → is_scientific t ≡ true → Spelling t
  pub moves : (e : List ℕ) (x : Exponent e) → Moves e x
