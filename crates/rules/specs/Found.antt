-- What one pass over the sensors of a sheet finds.
use Rattle.rules.specs.declared.Sensors.{Sensors}
use Rattle.machine.specs.declared.Sheet.{Sheet}
use Rattle.machine.specs.Places.{tabulate}
use Rattle.machine.specs.Sheet.{sensor_of, sensors_ok}

-- whether the sensors keep their rules, the type of each, and how many options it has
unfoldable pub sensors_found : Sheet → Sensors
sensors_found sheet =
    record { ok = sensors_ok sheet; kinds = tabulate (λ j. (sensor_of sheet j).kind) 32; options = tabulate (λ j. (sensor_of sheet j).option_count) 32 }
