-- Numbers of rows: none is 0, and what comes to 0 is not declined.
use Prim.Native.Nat.{ℕ}
use native.Mathlib.Omega.{arith}
use mathlib.Core.Path.{◌≡◌, ap, sym, ◌∙◌}
use Rattle.std.specs.Prelude.{Result, Ok, Err}
use Rattle.machine.specs.declared.Refusal.{Refusal}
use Rattle.machine.specs.declared.Refusal.TheVariants.{StateOutOfRange, OutputTooShort, DeviceHalted, NotASheet, NoSuchClient, WrongConnection, AddressText, TickTime, NoSuchSensor, ReadingUnfit, LogEntry, NotAMessage, UnexpectedReply, UnknownRequest, ArgumentCount, UnknownSensor, UnknownStrategy, StrategyNotForType, BadParameter, ShortestOverLongest, SensorTwice, UnknownLevel, HelpUnknown, ReadingAhead, NoSuchProfile, OneClientOnly}
use Rattle.machine.specs.Refusals.{refusal_number, number_in}

-- no row has the number 0
pub declines : (r : Refusal) → refusal_number r ≡ 0 → ⊥
declines StateOutOfRange e = omega arith
declines OutputTooShort e = omega arith
declines DeviceHalted e = omega arith
declines NotASheet e = omega arith
declines NoSuchClient e = omega arith
declines WrongConnection e = omega arith
declines AddressText e = omega arith
declines TickTime e = omega arith
declines NoSuchSensor e = omega arith
declines ReadingUnfit e = omega arith
declines LogEntry e = omega arith
declines NotAMessage e = omega arith
declines UnexpectedReply e = omega arith
declines UnknownRequest e = omega arith
declines ArgumentCount e = omega arith
declines UnknownSensor e = omega arith
declines UnknownStrategy e = omega arith
declines StrategyNotForType e = omega arith
declines BadParameter e = omega arith
declines ShortestOverLongest e = omega arith
declines SensorTwice e = omega arith
declines UnknownLevel e = omega arith
declines HelpUnknown e = omega arith
declines ReadingAhead e = omega arith
declines NoSuchProfile e = omega arith
declines OneClientOnly e = omega arith

module _ {A : Type 0} where
  -- what is declined comes to no 0
  pub not_zero : {v : Result A Refusal} {r : Refusal} → v ≡ Err r → number_in v ≡ 0 → ⊥
  not_zero {r = r} e h = declines r (rw e at h)
