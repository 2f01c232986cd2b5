-- What is found is the test of each place, and what is written are the type, the number of options and the key of each; after the loop of 32.
use Prim.Native.Nat.{◌<◌}
use native.Mathlib.Numerals.{add-one}
use native.Mathlib.Omega.{arith}
use mathlib.Core.Path.{◌≡◌, refl, sym, ◌∙◌}
use mathlib.Core.Bool.{◌&&◌}
use lib.Dec.{leb}
use lib.ListN.{replicate}
use Rattle.machine.specs.Places.{all_below, tabulate}
use Rattle.machine.specs.Sheet.{sensor_ok_at, sensors_ok}
use Rattle.machine.proofs.StoreLaws.{filled_one}
use Rattle.rules.specs.Keys.{name_keys}
use Rattle.rules.specs.Found.{sensors_found}
use Rattle.rules.proofs.ElementLaws.{names_long}
use Rattle.rules.proofs.DistinctLaws.{sensors_are, sensors_keyed}
use Rattle.rules.proofs.KeyLaws.{once_each}
use Rattle.rules.proofs.FoundLaws.{kind_at, options_at, key_at, all_written}
use Rattle.rules.proofs.sensors_found.Goals as goal
use Rattle.rules.proofs.sensors_found.Goals.{then-not-keys_apart, else-not-keys_apart}

pub loop-j-init : goal.loop-j-init
unfolding all_below tabulate
loop-j-init c = record { found = refl; kinds = refl; options = refl; keys = refl }

pub loop-j-preserved : goal.loop-j-preserved
unfolding all_below
loop-j-preserved c = let turn = c.loop-j in let sheet = c.args.sheet in
    let below : turn.j < 32 = omega arith in
    record {
      found = rw (add-one turn.j, turn.invariant.found, c.sensor_ok_at-ok.ensures, c.from-count.ensures);
      kinds = rw turn.invariant.kinds (filled_one (kind_at sheet) (replicate 32 0) turn.j below);
      options = rw turn.invariant.options (filled_one (options_at sheet) (replicate 32 0) turn.j below);
      keys = rw (turn.invariant.keys, c.name_key.ensures) (filled_one (key_at sheet) (replicate 32 0) turn.j below);
    }

pub returns : goal.returns
unfolding sensors_found name_keys
returns c = let sheet = c.args.sheet in let turn = c.loop-j in
    let e : turn.j ≡ 32 = omega arith in
    let each : turn.ok ≡ all_below (sensor_ok_at sheet) 32 = rw e at turn.invariant.found in
    let long = names_long sheet _ c.well_formed.0 in
    let once = once_each turn.keys c.min-held.result c.keys_apart.result (omega (arith, c.min-held.ensures)) c.keys_apart.ensures in
    let ok : (leb sheet.count 32 && c.if-not-keys_apart.ok) ≡ sensors_ok sheet =
    elim c.if-not-keys_apart.branch [
      | then-not-keys_apart w ↦ rw (w.ok-is, each, w.names_compared-ok.ensures) (sensors_are sheet long)
      | else-not-keys_apart w ↦
          rw (w.ok-is, each)
          (sensors_keyed sheet long (rw (all_written (key_at sheet) e turn.invariant.keys, c.min-held.ensures, c.from-count.ensures) at (sym once ∙ w.if-not-keys_apart.false)))
    ]
    in
    rw (c.from-count.ensures, ok, all_written (kind_at sheet) e turn.invariant.kinds, all_written (options_at sheet) e turn.invariant.options)
