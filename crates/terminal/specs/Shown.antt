-- What a client is shown of a call's output: its lines, one after another.
use Rattle.std.specs.Prelude.{ℕ, List}
use Rattle.message.specs.Delivery.{cut}
use Rattle.machine.specs.Places.{joined}
use Rattle.machine.specs.TwoDevices.{lines_to}

-- the lines of a client in the bytes of deliveries
unfoldable pub shown_to : ℕ → List ℕ → List ℕ
shown_to c bytes = joined (lines_to c (cut bytes))
