-- The lists that the pass over the sensors writes.
use Prim.Native.Nat.{ℕ}
use mathlib.Core.Path.{◌≡◌, refl, ◌∙◌}
use mathlib.Core.List.{List, ◌++◌}
use lib.ListN.{drop, replicate}
use Rattle.machine.specs.declared.Sheet.{Sheet}
use Rattle.machine.specs.Places.{tabulate}
use Rattle.machine.specs.Sheet.{sensor_of}
use Rattle.machine.proofs.StoreLaws.{filled_all}
use Rattle.rules.specs.Keys.{name_key}

-- the type, the number of options and the key at a place
abbrev pub kind_at : Sheet → ℕ → ℕ
kind_at sheet j = (sensor_of sheet j).kind

abbrev pub options_at : Sheet → ℕ → ℕ
options_at sheet j = (sensor_of sheet j).option_count

abbrev pub key_at : Sheet → ℕ → ℕ
key_at sheet j = name_key (sensor_of sheet j).name

-- an array that is written below j
abbrev pub Written : (ℕ → ℕ) → ℕ → List ℕ → Type 0
Written f j l = l ≡ tabulate f j ++ drop j (replicate 32 0)

-- it is written whole
pub all_written : (f : ℕ → ℕ) {j : ℕ} {l : List ℕ} → j ≡ 32 → Written f j l → l ≡ tabulate f 32
all_written f e h = rw e at h ∙ filled_all f (replicate 32 0) 32 refl
