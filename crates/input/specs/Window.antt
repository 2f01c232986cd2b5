-- The part of a buffer that was read and is not used yet.
use Rattle.std.specs.Prelude.{ℕ, ◌-◌, cond, List, eqb, length, take, drop}
use Rattle.input.specs.declared.Window.{Window}

-- its bytes
abbrev pub pending : List ℕ → Window → List ℕ
pending buf w = take (w.to - w.from) (drop w.from buf)

-- those that are kept: all, or the first `most` where they fill the buffer
unfoldable pub kept : List ℕ → Window → ℕ → List ℕ
kept buf w most = cond (eqb (length (pending buf w)) (length buf)) (take most buf) (pending buf w)

-- as many bytes at the start of a buffer
abbrev pub first : ℕ → Window
first n = record { from = 0; to = n }
