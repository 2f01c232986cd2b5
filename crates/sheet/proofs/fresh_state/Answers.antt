-- What each call gives is the field's value in `fresh`.
use Rattle.sheet.proofs.fresh_state.Goals as goal

pub returns : goal.returns
returns c = rw (c.start_level.ensures, c.no_subscription-subscriptions.ensures, c.blank_client-clients.ensures, c.fresh_readings-readings.ensures)
