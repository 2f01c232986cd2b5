-- The variant names the test.
use Rattle.machine.specs.Sheet.{graphic, printable}
use Rattle.machine.specs.Declined.{entry_byte}
use Rattle.rules.proofs.in_charset.Goals as goal

pub returns-in-Name : goal.returns-in-Name
returns-in-Name c = rw c.in-Name.is c.is_name_byte.ensures

pub returns-in-Graphic : goal.returns-in-Graphic
unfolding graphic
returns-in-Graphic c = rw c.in-Graphic.is

pub returns-in-Printable : goal.returns-in-Printable
unfolding printable
returns-in-Printable c = rw c.in-Printable.is

pub returns-in-Entry : goal.returns-in-Entry
unfolding entry_byte printable
returns-in-Entry c = rw c.in-Entry.is
