-- What the answers of this crate's functions say, in the terms of machine's Opening: `broken`, or what is taken and the bytes behind it.
use Rattle.std.specs.Prelude.{ℕ, List, Option, Some, None}
use Rattle.std.specs.Borrow.{Bor}
use Rattle.value.specs.declared.Limits.{Limits}
use Rattle.machine.specs.declared.Choice.{Choice}
use Rattle.machine.specs.declared.Sensor.{Sensor}
use Rattle.machine.specs.Opening.{Taken, broken, taken, and_then, with_limits, with_options}

module _ {A : Type 0} where
  -- a value and the bytes that follow it
  abbrev pub read : Option (A × Bor (List ℕ)) → Taken A
  read (Some x) = taken x.0 x.1.now
  read None = broken

-- a text and the bytes that follow it
abbrev pub read_text : Option (Bor (List ℕ) × Bor (List ℕ)) → Taken (List ℕ)
read_text (Some x) = taken x.0.now x.1.now
read_text None = broken

-- a sensor with the options that were read
abbrev pub taken_options : Sensor → Taken (List Choice) → Taken Sensor
taken_options n r = and_then r (λ os rest. taken (with_options n os) rest)

-- a sensor with the limits that were read
abbrev pub taken_limits : Sensor → Taken Limits → Taken Sensor
taken_limits n r = and_then r (λ l rest. taken (with_limits n l) rest)
