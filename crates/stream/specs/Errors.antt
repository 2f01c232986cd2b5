-- What is to be done with a call that failed.
use Rattle.std.specs.Prelude.{Bool, false, ◌||◌, eqb, ℤ, pos, negsuc}

-- the errors of a call that is to be made again: EINTR, a signal interrupted it, and EAGAIN, its descriptor was not ready
unfoldable pub passes : ℤ → Bool
passes (pos n) = eqb n 4 || eqb n 11
passes (negsuc n) = false

-- a call that answered a count is not made again, whatever the error
unfoldable pub is_to_repeat : ℤ → ℤ → Bool
is_to_repeat (pos n) error = false
is_to_repeat (negsuc n) error = passes error
