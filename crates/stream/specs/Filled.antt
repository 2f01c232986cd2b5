-- A buffer that was filled from an input.
use Rattle.std.specs.Prelude.{ℕ, ◌≤◌, ◌≡◌, List, length, take}
use Rattle.input.specs.declared.Window.{Window}
use Rattle.input.specs.Window.{kept}

-- behind the first `from` bytes, which stay, there are those that came, up to `to`; the buffer is as long as it was
pub record Behind (before : List ℕ) (from : ℕ) (after : List ℕ) (to : ℕ) : Type 0 where
  pub forward : from ≤ to
  pub fits : to ≤ length after
  pub size : length after ≡ length before
  pub front : take from after ≡ take from before

-- behind the bytes of `w` that were kept, which stand in front, there are those that came, up to the end of the window; the buffer is as long as
-- it was
pub record Filled (before : List ℕ) (w : Window) (most : ℕ) (after : List ℕ) (more : Window) : Type 0 where
  pub from : more.from ≡ length (kept before w most)
  pub to : more.to ≤ length after
  pub forward : more.from ≤ more.to
  pub size : length after ≡ length before
  pub front : take more.from after ≡ kept before w most

-- the window behind the first n bytes to which no byte came
abbrev pub empty_at : ℕ → Window
empty_at n = record { from = n; to = n }
