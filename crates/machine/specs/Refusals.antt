-- Document 01, "Why a call or line is declined": the rows and their numbers.
use Rattle.std.specs.Prelude.{ℕ, Result, Ok, Err}
use Rattle.machine.specs.declared.Refusal.{Refusal}
use Rattle.machine.specs.declared.Refusal.TheVariants.{StateOutOfRange, OutputTooShort, DeviceHalted, NotASheet, NoSuchClient, WrongConnection, AddressText, TickTime, NoSuchSensor, ReadingUnfit, LogEntry, NotAMessage, UnexpectedReply, UnknownRequest, ArgumentCount, UnknownSensor, UnknownStrategy, StrategyNotForType, BadParameter, ShortestOverLongest, SensorTwice, UnknownLevel, HelpUnknown, ReadingAhead, NoSuchProfile, OneClientOnly}

-- the number of a row
abbrev pub refusal_number : Refusal → ℕ
refusal_number StateOutOfRange = 1  -- "state field out of range"
refusal_number OutputTooShort = 2  -- "output under 65,536 bytes"
refusal_number DeviceHalted = 3  -- "device halted"
refusal_number NotASheet = 4  -- "sheet breaks its layout"
refusal_number NoSuchClient = 5  -- "client above 7"
refusal_number WrongConnection = 6  -- "connect: connected; else: not connected"
refusal_number AddressText = 7  -- "address text"
refusal_number TickTime = 8  -- "tick below clock or above limit"
refusal_number NoSuchSensor = 9  -- "sensor not on sheet"
refusal_number ReadingUnfit = 10  -- "reading unfit for type"
refusal_number LogEntry = 11  -- "log level off/all, logger .., message .."
refusal_number NotAMessage = 12  -- "line over 2,048 or no message"
refusal_number UnexpectedReply = 13  -- "reply received"
refusal_number UnknownRequest = 14  -- "request unknown"
refusal_number ArgumentCount = 15  -- "argument count"
refusal_number UnknownSensor = 16  -- "sensor name unknown"
refusal_number UnknownStrategy = 17  -- "strategy unknown"
refusal_number StrategyNotForType = 18  -- "differential kinds on types 3–5"
refusal_number BadParameter = 19  -- "parameter"
refusal_number ShortestOverLongest = 20  -- "shortest over longest"
refusal_number SensorTwice = 21  -- "name twice"
refusal_number UnknownLevel = 22  -- "log level unknown"
refusal_number HelpUnknown = 23  -- "help on unknown name"
refusal_number ReadingAhead = 26  -- document 02, (g): the reading's time is above the clock
refusal_number NoSuchProfile = 31  -- document 02, (m): no such profile
refusal_number OneClientOnly = 32  -- document 02, (m): a client above 0 under profile 1

module _ {A : Type 0} where
  -- the number that a part of a call comes to: 0, "a call that no row declines", or that of the row that declines it
  abbrev pub number_in : Result A Refusal → ℕ
  number_in (Ok x) = 0
  number_in (Err r) = refusal_number r
