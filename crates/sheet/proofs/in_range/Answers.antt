-- What each pass says, beside the tests of the profile, the clock, the level and the blank state.
use Rattle.machine.specs.Range.{is_blank, profile_ok, in_range}
use Rattle.rules.specs.Found.{sensors_found}
use Rattle.sheet.proofs.FitsLaws.{alone_found, within_found, readings_found, pairs_found}
use Rattle.sheet.proofs.in_range.Goals as goal

pub returns : goal.returns
unfolding in_range is_blank profile_ok sensors_found
returns c = let s = c.args.s in
    rw (c.titles_ok-titles.ensures, c.titles_none-untitled.ensures, c.none_from-alone.ensures, alone_found, c.none_from-within.ensures, within_found, c.last_client.ensures, c.readings_ok-readings.ensures, c.clients_ok-clients.ensures, c.pairs_ok-pairs.ensures, c.sensors_found-sensors.ensures, readings_found s.sheet s.clock s.readings, pairs_found s)
