-- The tests of readings and subscriptions by the types of the sensors, as one pass over the sheet finds them.
use Rattle.std.specs.Prelude.{ℕ, ◌/◌, ◌%◌, Bool, cond, not, ◌&&◌, ◌||◌, List, leb, ltb, get_or}
use Rattle.value.specs.Reading.{sample_fits}
use Rattle.machine.specs.declared.Client.{Client}
use Rattle.machine.specs.declared.Stored.{Stored}
use Rattle.machine.specs.declared.Subscription.{Subscription}
use Rattle.machine.specs.State.{no_stored, no_client, no_subscription}
use Rattle.machine.specs.Range.{stored_none, strategy_ok, pair_none}
use Rattle.rules.specs.declared.Sensors.{Sensors}

-- the reading at a place
unfoldable pub stored_fits : ℕ → ℕ → Sensors → List Stored → ℕ → Bool
stored_fits count clock sensors rs j =
    cond (ltb j count)
    (sample_fits (get_or sensors.kinds j 0) (get_or sensors.options j 0) (get_or rs j no_stored).sample && leb (get_or rs j no_stored).time clock)
    (stored_none (get_or rs j no_stored))

-- a subscription with a report, to a sensor of a type
unfoldable pub reported_fits : ℕ → ℕ → ℕ → Subscription → Bool
reported_fits clock kind options p = p.reported && (strategy_ok kind p.strategy && (sample_fits kind options p.sample && leb p.time clock))

-- the subscription at a place
unfoldable pub pair_fits : ℕ → ℕ → Sensors → List Client → List Subscription → ℕ → Bool
pair_fits count clock sensors ks ps p =
    pair_none (get_or ps p no_subscription)
    || (((get_or ks (p / 32) no_client).connected && ltb (p % 32) count)
    && reported_fits clock (get_or sensors.kinds (p % 32) 0) (get_or sensors.options (p % 32) 0) (get_or ps p no_subscription))

-- a client is below the first, or not connected
abbrev pub absent_from : ℕ → List Client → ℕ → Bool
absent_from first ks c = ltb c first || not (get_or ks c no_client).connected
