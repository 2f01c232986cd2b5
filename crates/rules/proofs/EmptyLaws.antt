-- A place that holds no option, and sixteen bytes that are zero.
use Prim.Native.Nat.{ℕ, zero, suc, ◌+◌, ◌*◌, ◌≤◌}
use native.Mathlib.Omega.{arith}
use mathlib.Core.Path.{◌≡◌, refl, sym, ◌∙◌}
use mathlib.Core.Bool.{Bool, true, false, cond, ◌&&◌, and_assoc, and-true as and_right}
use mathlib.Core.List.{List}
use lib.Dec.{eqb, leb, ltb}
use lib.ListN.{length, drop, get_or, drop_of_length-le}
use borrow.Author.Tests.{eqb-true, eq-eqb, ne_eqb, lt-leb, le-leb, le-ltb}
use Rattle.std.specs.Int.{from_le_bytes}
use mir.Syntax.{w128}
use Rattle.output.specs.Text.{all}
use Rattle.texts.proofs.At.{at}
use Rattle.machine.specs.declared.Choice.{Choice}
use Rattle.machine.specs.Places.{all_below}
use Rattle.machine.specs.Sheet.{no_choice, text_ok, name_byte, choice_none, choice_ok, zero_byte}
use Rattle.machine.proofs.TestLaws.{and_true, and_in, test_same, cond_false}
use Rattle.machine.proofs.PlacesLaws.{below_same}
use Rattle.rules.specs.Keys.{quarter_at}

-- a sum is zero where its parts are
sum_zero : (a b : ℕ) → eqb (a + 256 * b) 0 ≡ (eqb a 0 && eqb b 0)
sum_zero a b = test_same (eqb (a + 256 * b) 0) (eqb a 0 && eqb b 0)
    (λ h. let e = eqb-true (a + 256 * b) 0 h in and_in (eqb a 0) (eqb b 0) (eq-eqb a 0 (omega arith)) (eq-eqb b 0 (omega arith)))
    (λ h. let k = and_true (eqb a 0) (eqb b 0) h in eq-eqb (a + 256 * b) 0 (omega (arith, eqb-true a 0 k.0, eqb-true b 0 k.1)))

-- the next four bytes are zero where their quarter is
zero_quarter : (t : List ℕ) (i : ℕ) → i + 4 ≤ length t → all zero_byte (drop i t) ≡ (eqb (quarter_at t i) 0 && all zero_byte (drop (i + 4) t))
unfolding quarter_at
zero_quarter t i h =
    let e : i + 1 + 1 ≡ i + 2 = omega arith in
    let f : i + 2 + 1 ≡ i + 3 = omega arith in
    let g : i + 3 + 1 ≡ i + 4 = omega arith in
    rw (at t i (omega arith), at t (i + 1) (omega arith), e, at t (i + 2) (omega arith), f, at t (i + 3) (omega arith), g) (simp (sum_zero, and_assoc))

-- sixteen bytes are zero where their quarters are
pub zero_quarters : (t : List ℕ) → length t ≡ 16
    → (eqb (quarter_at t 0) 0 && (eqb (quarter_at t 4) 0 && (eqb (quarter_at t 8) 0 && eqb (quarter_at t 12) 0))) ≡ all zero_byte t
zero_quarters t h =
    sym (zero_quarter t 0 (omega arith)
    ∙ rw (zero_quarter t 4 (omega arith), zero_quarter t 8 (omega arith), zero_quarter t 12 (omega arith), drop_of_length-le t {i = 16} (omega arith), and_right (eqb (quarter_at t 12) 0)))

-- one number of four quarters
abbrev joined : ℕ → ℕ → ℕ → ℕ → ℕ
joined a b c d = a + 4294967296 * b + 18446744073709551616 * c + 79228162514264337593543950336 * d

joined_zero : (a b c d : ℕ) → eqb (joined a b c d) 0 ≡ (eqb a 0 && (eqb b 0 && (eqb c 0 && eqb d 0)))
joined_zero a b c d = test_same (eqb (joined a b c d) 0) (eqb a 0 && (eqb b 0 && (eqb c 0 && eqb d 0)))
    (λ h. let e = eqb-true (joined a b c d) 0 h in
    and_in (eqb a 0) (eqb b 0 && (eqb c 0 && eqb d 0)) (eq-eqb a 0 (omega arith))
    (and_in (eqb b 0) (eqb c 0 && eqb d 0) (eq-eqb b 0 (omega arith)) (and_in (eqb c 0) (eqb d 0) (eq-eqb c 0 (omega arith)) (eq-eqb d 0 (omega arith)))))
    (λ h. let k = and_true (eqb a 0) (eqb b 0 && (eqb c 0 && eqb d 0)) h in
    let l = and_true (eqb b 0) (eqb c 0 && eqb d 0) k.1 in
    let m = and_true (eqb c 0) (eqb d 0) l.1 in
    eq-eqb (joined a b c d) 0 (omega (arith, eqb-true a 0 k.0, eqb-true b 0 l.0, eqb-true c 0 m.0, eqb-true d 0 m.1)))

-- sixteen bytes as one number
number_of : (t : List ℕ) → from_le_bytes w128 t ≡ joined (quarter_at t 0) (quarter_at t 4) (quarter_at t 8) (quarter_at t 12)
unfolding quarter_at
number_of t = omega arith

-- they are zero where their number is
pub zero_number : (t : List ℕ) → length t ≡ 16 → eqb (from_le_bytes w128 t) 0 ≡ all zero_byte t
zero_number t h = rw (number_of t, joined_zero (quarter_at t 0) (quarter_at t 4) (quarter_at t 8) (quarter_at t 12)) (zero_quarters t h)

-- from 0 to 0 there is 0
pub no_more : (n : ℕ) → (leb 0 n && leb n 0) ≡ eqb n 0
no_more zero = refl
no_more (suc n) = rw (lt-leb (suc n) 0 (omega arith), ne_eqb (suc n) 0 (λ e. omega arith), le-leb 0 (suc n) (omega arith))

-- a text of no bytes: its array is zero
no_text : (is : ℕ → Bool) (n : ℕ) (t : List ℕ) → text_ok 0 0 is n t ≡ (eqb n 0 && all zero_byte t)
unfolding text_ok
no_text is zero t = refl
no_text is (suc n) t = rw (le-leb 0 (suc n) (omega arith), lt-leb (suc n) 0 (omega arith), ne_eqb (suc n) 0 (λ e. omega arith))

-- a place of an option by the bounds of one, or by those of none
pub choice_at_lem : (there : Bool) (o : Choice)
    → text_ok (cond there 1 0) (cond there 16 0) name_byte o.len o.text ≡ cond there (text_ok 1 16 name_byte o.len o.text) (choice_none o)
unfolding choice_none
choice_at_lem true o = refl
choice_at_lem false o = no_text name_byte o.len o.text

-- where there are no options, a place is one that holds none
no_choice_lem : (k : ℕ) (o : Choice) → choice_ok 0 k o ≡ choice_none o
unfolding choice_ok
no_choice_lem k o = cond_false (ltb k 0) _ _ (le-ltb k 0 (omega arith))

-- and so each place
pub no_choices : (os : List Choice) → all_below (λ k. choice_ok 0 k (get_or os k no_choice)) 8 ≡ all_below (λ k. choice_none (get_or os k no_choice)) 8
no_choices os = below_same (λ k. choice_ok 0 k (get_or os k no_choice)) (λ k. choice_none (get_or os k no_choice)) 8 (λ k l. no_choice_lem k (get_or os k no_choice))
