-- How long the texts of numbers are at most.
use Prim.Native.Nat.{ℕ, zero, suc, ◌+◌, ◌-◌, ◌*◌, ◌/◌, ◌%◌, ◌^◌, ◌<◌, ◌≤◌}
use native.Mathlib.Omega.{arith}
use mathlib.Core.Bool.{Bool, true, false, cond}
use mathlib.Core.List.{List, []}
use lib.Dec.{ltb, eqb}
use lib.ListN.{length, length-append}
use Rattle.output.specs.Number.{digits_in, decimal, time, fraction_in, fixed, integer, float, difference, whole_difference}
use Rattle.output.proofs.NumberLaws.{decimal_within}

length_cond : (k : ℕ) (t : Bool) (a b : List ℕ) → length a ≤ k → length b ≤ k → length (cond t a b) ≤ k
length_cond k true a b h g = h
length_cond k false a b h g = g

length_digits : (k n : ℕ) → length (digits_in k n) ≤ suc k
length_digits zero n = omega arith
length_digits (suc k) n =
    let h = length_cond (suc k) (ltb n 10) [] (digits_in k (n / 10)) (omega arith) (length_digits k (n / 10)) in
    rw length-append (omega arith)

-- a number below 10^(k+1) has at most k + 1 digits
pub length-decimal : (k n : ℕ) → k ≤ 19 → n < 10 ^ suc k → length (decimal n) ≤ suc k
length-decimal k n l h = rw (decimal_within k n l h) (length_digits k n)

pub length-fraction : (base k f : ℕ) → length (fraction_in base k f) ≤ k
length-fraction base zero f = omega arith
length-fraction base (suc k) f =
    let h = length_cond k (eqb (f * 10 % base) 0) [] (fraction_in base k (f * 10 % base)) (omega arith) (length-fraction base k (f * 10 % base)) in
    omega arith

length-fixed : (base j k m : ℕ) → j ≤ 19 → m / base < 10 ^ suc j → length (fixed base k m) ≤ suc j + suc k
unfolding fixed
length-fixed base j k m l h =
    let d = length-decimal j (m / base) l h in
    let f = length-fraction base k (m % base) in
    rw length-append (omega arith)

-- "0 to 9,999,999,999,999" ms
pub length-time : (ms : ℕ) → ms ≤ 9999999999999 → length (time ms) ≤ 14
unfolding time
length-time ms h = let d = length-decimal 9 (ms / 1000) (omega arith) (omega arith) in rw length-append (omega arith)

-- signed 32 bits
pub length-integer : (v : ℕ) → v < 2 ^ 32 → length (integer v) ≤ 11
unfolding integer
length-integer v h =
    let a : length (decimal (2 ^ 31 - v)) ≤ 10 = length-decimal 9 (2 ^ 31 - v) (omega arith) (omega arith) in
    let b : length (decimal (v - 2 ^ 31)) ≤ 10 = length-decimal 9 (v - 2 ^ 31) (omega arith) (omega arith) in
    length_cond 11 (ltb v (2 ^ 31)) _ _ (omega arith) (omega arith)

-- within ±1,048,576
pub length_float : (v : ℕ) → v ≤ 2 ^ 31 → length (float v) ≤ 19
unfolding float
length_float v h =
    let a = length-fixed 1024 6 10 (2 ^ 30 - v) (omega arith) (omega arith) in
    let b = length-fixed 1024 6 10 (v - 2 ^ 30) (omega arith) (omega arith) in
    length_cond 19 (ltb v (2 ^ 30)) _ _ (omega arith) (omega arith)

-- to 2,097,152
pub length-difference : (d : ℕ) → d ≤ 2097152000000 → length (difference d) ≤ 14
unfolding difference
length-difference d h = length-fixed 1000000 6 6 d (omega arith) (omega arith)

-- to 4,294,967,295
pub length-whole_difference : (d : ℕ) → d ≤ 4294967295000000 → length (whole_difference d) ≤ 10
unfolding whole_difference
length-whole_difference d h = length-decimal 9 (d / 1000000) (omega arith) (omega arith)
