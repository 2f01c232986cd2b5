-- Document 01's number for each answer of this crate that is an enum: 0 where nothing is refused.
use Rattle.value.specs.declared.Sample.{Sample}
use Rattle.std.specs.Prelude.{ℕ, Some, None, Option}

-- "reading unfit for type", 10
abbrev pub sampled_number : Option Sample → ℕ
sampled_number (Some s) = 0
sampled_number None = 10

-- "parameter", 19
abbrev pub parameter_number : Option ℕ → ℕ
parameter_number (Some n) = 0
parameter_number None = 19
