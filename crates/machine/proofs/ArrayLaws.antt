-- How long the arrays in a state, in a sheet and in a sensor are, by what is known of a value of the type.
use mathlib.Core.Path.{◌≡◌}
use mathlib.Core.List.{List}
use lib.ListN.{length}
use mir.Val.{Val}
use denote.Shadow.{shadow}
use denote.Struct.Declared as declared
use Rattle.machine.specs.declared.Sensor.{Sensor}
use Rattle.machine.specs.declared.Sheet.{Sheet}
use Rattle.machine.specs.declared.State.{State}
use Rattle.machine.specs.contracts.Sensor.{the_type as sensor-type}
use Rattle.machine.specs.contracts.Sheet.{the_type as sheet-type}
use Rattle.machine.specs.contracts.State.{the_type as state-type}

pub options_many : (n : Sensor) (vs : List Val) → shadow ((declared.row sensor-type).own_val n vs) → length n.options ≡ 8
options_many n vs h = h.1.1.1.1.1.1.1.1.1.1.1.0.1.0.1

pub sensors_many : (sheet : Sheet) (vs : List Val) → shadow ((declared.row sheet-type).own_val sheet vs) → length sheet.sensors ≡ 32
sensors_many sheet vs h = h.1.1.1.1.1.1.1.1.0.1.0.1

pub readings_many : (s : State) (vs : List Val) → shadow ((declared.row state-type).own_val s vs) → length s.readings ≡ 32
readings_many s vs h = h.1.1.1.1.1.1.0.1.0.1

pub subscriptions_many : (s : State) (vs : List Val) → shadow ((declared.row state-type).own_val s vs) → length s.subscriptions ≡ 256
subscriptions_many s vs h = h.1.1.1.1.1.1.1.1.0.1.0.1
