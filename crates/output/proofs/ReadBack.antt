-- Each reader reads exactly what its writer writes.
use Prim.Native.Nat.{ℕ, ◌*◌, ◌/◌, ◌%◌, ◌^◌, ◌<◌, ◌≤◌}
use Prim.Native.Char.{code}
use native.Mathlib.Omega.{arith}
use mathlib.Core.Path.{refl}
use mathlib.Core.Bool.{and-eq-true_iff}
use mathlib.Core.List.{[], append-nil}
use lib.Dec.{leb, eqb}
use borrow.Author.Tests.{ltb-true, leb-true, eqb-true}
use Rattle.output.specs.Number.{decimal, time, integer, fixed, float, difference, whole_difference}
use Rattle.output.specs.Read.{value_from, parts, from_bias, in_decimal, in_boolean, in_time, in_integer, in_float, in_difference, in_whole_difference, read_decimal, read_boolean, read_time, read_integer, read_float, read_difference, read_whole_difference, Exactly}
use Rattle.output.proofs.TextLaws.{first, first_decimal}
use Rattle.output.proofs.ReadLaws.{value_decimal, parts_fixed, parts_time, from_bias_lem, exactly}

pub decimals : Exactly read_decimal decimal in_decimal
unfolding read_decimal
decimals = exactly decimal in_decimal (value_from 0) (λ n r. value_decimal n (ltb-true n (2 ^ 64) r))

pub booleans : Exactly read_boolean decimal in_boolean
unfolding read_boolean
booleans = exactly decimal in_boolean (value_from 0) (λ n r. let l = leb-true n 1 r in value_decimal n (omega arith))

pub times : Exactly read_time time in_time
unfolding read_time
times = exactly time in_time (parts 1000) (λ ms r. let l = leb-true ms 9999999999999 r in parts_time ms (omega arith))

pub digit_first : (n : ℕ) → code "0" ≤ first (decimal n)
digit_first n = rw (append-nil (decimal n)) at (first_decimal n [])

pub integers : Exactly read_integer integer in_integer
unfolding read_integer integer
integers =
    exactly integer in_integer (from_bias (2 ^ 31) (value_from 0))
    (λ v r. let l = ltb-true v (2 ^ 32) r in from_bias_lem (2 ^ 31) decimal (value_from 0) v digit_first (λ n h. value_decimal n (omega arith)) (omega arith))

pub fixed_first : (base k m : ℕ) → code "0" ≤ first (fixed base k m)
unfolding fixed
fixed_first base k m = first_decimal (m / base) _

-- 1024 · 9,765,625 = 10^10
pub floats : Exactly read_float float in_float
unfolding read_float float
floats =
    exactly float in_float (from_bias (2 ^ 30) (parts 1024))
    (λ v r.
    let l = leb-true v (2 ^ 31) r in
    from_bias_lem (2 ^ 30) (fixed 1024 10) (parts 1024) v (fixed_first 1024 10) (λ n h. parts_fixed 1024 10 9765625 n (omega arith) refl (omega arith)) (omega arith))

pub differences : Exactly read_difference difference in_difference
unfolding read_difference difference
differences =
    exactly difference in_difference (parts 1000000)
    (λ d r. let l = leb-true d 2097152000000 r in parts_fixed 1000000 6 1 d (omega arith) refl (omega arith))

pub whole_differences : Exactly read_whole_difference whole_difference in_whole_difference
unfolding read_whole_difference whole_difference
whole_differences =
    exactly whole_difference in_whole_difference (λ t. value_from 0 t * 1000000)
    (λ d r.
    let p = (and-eq-true_iff (leb d 4294967295000000) (eqb (d % 1000000) 0)).0 r in
    let l = leb-true d 4294967295000000 p.0 in
    let z = eqb-true (d % 1000000) 0 p.1 in
    let b : d / 1000000 < 2 ^ 64 = omega arith in
    rw (value_decimal (d / 1000000) b) (omega arith))
