-- What each call gives is the field's value in `blank`.
use Rattle.sheet.proofs.blank_state.Goals as goal

pub returns : goal.returns
returns c = rw (c.no_subscription-subscriptions.ensures, c.blank_client-clients.ensures, c.no_stored-readings.ensures, c.blank_sheet-sheet.ensures)
