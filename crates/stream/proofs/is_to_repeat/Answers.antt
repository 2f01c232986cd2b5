-- An answer is negative by its sign, and an error's number is read by its bits.
use Rattle.std.proofs.Common.{suc, ◌-◌, ◌^◌, ◌≡◌, refl, arith, ◌&&◌, ◌||◌, eqb, ℤ, pos, negsuc, w32, SFits, of_z, to_z-of_z}
use Rattle.std.specs.Int.Signed.{lt_z}
use borrow.Author.Tests.{le-ltb, ne_eqb}
use Rattle.stream.specs.Errors.{passes, is_to_repeat}
use Rattle.stream.proofs.is_to_repeat.Goals as goal

by_bits : (error : ℤ) → SFits w32 error → eqb (of_z w32 error) 4 || eqb (of_z w32 error) 11 ≡ passes error
unfolding passes
by_bits (pos n) fits = refl
by_bits (negsuc n) fits = rw (ne_eqb (2 ^ 32 - suc n) 4 (λ e. omega (arith, fits.sfits)), ne_eqb (2 ^ 32 - suc n) 11 (λ e. omega (arith, fits.sfits)))

by_sign : (got error : ℤ) → lt_z got (pos 0) && passes error ≡ is_to_repeat got error
unfolding is_to_repeat
by_sign (pos n) error = rw (le-ltb n 0 (omega arith))
by_sign (negsuc n) error = refl

pub returns : goal.returns
returns c = rw (to_z-of_z c.ranges.got, by_bits c.args.error c.ranges.error) (by_sign c.args.got c.args.error)
