-- What is found is the test of each place passed, and what is written are the type, the number of options and the key of each.
use mathlib.Core.Path.{◌≡◌}
use Rattle.machine.specs.Places.{all_below}
use Rattle.machine.specs.Sheet.{sensor_ok_at}
use Rattle.rules.proofs.FoundLaws.{kind_at, options_at, key_at, Written}
use Rattle.rules.proofs.sensors_found.Given as goal

abbrev pub invariant-loop-j : goal.invariant-loop-j
invariant-loop-j l = record {
  found : l.ok ≡ all_below (sensor_ok_at l.fn.sheet) l.j;
  kinds : Written (kind_at l.fn.sheet) l.j l.kinds;
  options : Written (options_at l.fn.sheet) l.j l.options;
  keys : Written (key_at l.fn.sheet) l.j l.keys;
}
