-- The passes have the bounds of a sensor, or those of none.
use Rattle.rules.proofs.OptionLaws.{sensor_at_lem}
use Rattle.rules.proofs.sensor_ok_at.Goals as goal

pub returns : goal.returns
returns c = rw (c.text_ok-named.ensures, c.text_ok-described.ensures, c.text_ok-measured.ensures, c.bound-one.ensures, c.bound.ensures, c.bound-2.ensures, c.bound-3.ensures, c.bound-4.ensures, c.limits_at-limits.ensures, c.options_ok-options.ensures)
    (sensor_at_lem c.args.there c.args.sensor)
