-- Rows one after another: what they say where one declines, and where none does, whatever stands behind them.
use Prim.Native.Nat.{ℕ, ◌<◌}
use mathlib.Core.Path.{◌≡◌, refl, ◌∙◌}
use mathlib.Core.Bool.{Bool, true, false, cond}
use mathlib.Core.List.{List, [], ◌∷◌}
use Rattle.machine.specs.Places.{Each}
use Rattle.machine.proofs.TestLaws.{passed, cond_false, cond_either}

-- whether it declines, and its number
pub record Row : Type 0 where
  pub declines : Bool
  pub number : ℕ

-- a row by its parts
abbrev pub row : Bool → ℕ → Row
row b n = record { declines = b; number = n }

-- the number of the first that declines, else what stands behind them
abbrev pub rows_or : List Row → ℕ → ℕ
rows_or [] rest = rest
rows_or (r ∷ rs) rest = cond r.declines r.number (rows_or rs rest)

-- where one declines, what stands behind is not asked
pub row_declines : (rs : List Row) (rest : ℕ) {n : ℕ} → n ≡ rows_or rs 0 → (n ≡ 0 → ⊥) → n ≡ rows_or rs rest
row_declines [] rest e h = absurd (h e)
row_declines (r ∷ rs) rest {n} e h = go r.declines e (λ f. row_declines rs rest f h)
  where
    go : (b : Bool) → n ≡ cond b r.number (rows_or rs 0) → (n ≡ rows_or rs 0 → n ≡ rows_or rs rest) → n ≡ cond b r.number (rows_or rs rest)
    go true e ih = e
    go false e ih = ih e

-- what holds of 0 and of each number holds of its number
pub row_each : (P : ℕ → Type 0) (rs : List Row) → P 0 → Each (λ (r : Row). P r.number) rs → P (rows_or rs 0)
row_each P [] z h = z
row_each P (r ∷ rs) z h = cond_either P r.declines r.number (rows_or rs 0) h.0 (row_each P rs z h.1)

-- none declines
pub rows_pass : (rs : List Row) → Each (λ (r : Row). 0 < r.number) rs → rows_or rs 0 ≡ 0 → Each (λ (r : Row). r.declines ≡ false) rs
rows_pass [] p e = tt
rows_pass (r ∷ rs) p e = let q = passed r.declines r.number (rows_or rs 0) p.0 e in (q.0, rows_pass rs p.1 q.1)

-- and what stands behind decides
pub rows_rest : (rs : List Row) (rest : ℕ) → Each (λ (r : Row). r.declines ≡ false) rs → rows_or rs rest ≡ rest
rows_rest [] rest h = refl
rows_rest (r ∷ rs) rest h = cond_false r.declines r.number (rows_or rs rest) h.0 ∙ rows_rest rs rest h.1
