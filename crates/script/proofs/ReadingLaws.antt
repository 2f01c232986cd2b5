-- Numbers within a type.
use Rattle.std.specs.Prelude.{Some, None, Option}
use Prim.Native.Nat.{ℕ, ◌≤◌}
use native.Mathlib.Omega.{arith}
use mathlib.Core.Path.{◌≡◌, refl}
use mathlib.Core.Bool.{Bool, true, false, cond}
use mathlib.Core.List.{List}
use Rattle.output.specs.Text.{text}
use borrow.Author.Tests.{leb-true}
use lib.Dec.{leb}
use Rattle.script.specs.Script.{at_most, number_at, profile_at}
use Rattle.input.specs.Words.{has_words}

pub at_most_within : (most : ℕ) (n : Option ℕ) (x : ℕ) → at_most most n ≡ Some x → x ≤ most
at_most_within most None x e = let z : ◌≡◌ {A = ℕ} 0 1 = cc in absurd (omega arith)
at_most_within most (Some y) x e = go (leb y most) refl e
  where
    go : (b : Bool) → leb y most ≡ b → cond b (Some y) None ≡ Some x → x ≤ most
    go true p q = let z : y ≡ x = cc in rw (← z) (leb-true y most p)
    go false p q = let z : ◌≡◌ {A = ℕ} 0 1 = cc in absurd (omega arith)

pub profile_within : (line : List ℕ) (x : ℕ) → profile_at line ≡ Some x → x ≤ 255
unfolding profile_at
profile_within line x e = go (has_words (text "open") 1 line) e
  where
    go : (b : Bool) → cond b (Some 0) (at_most 255 (number_at 2 line)) ≡ Some x → x ≤ 255
    go true q = let z : 0 ≡ x = cc in omega arith
    go false q = at_most_within 255 (number_at 2 line) x q
