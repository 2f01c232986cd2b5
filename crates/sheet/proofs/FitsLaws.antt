-- The tests by the types that one pass over a sheet finds are the tests by its sensors.
use Prim.Native.Nat.{ℕ, ◌+◌, ◌/◌, ◌%◌, ◌<◌}
use native.Mathlib.Omega.{arith}
use mathlib.Core.Path.{◌≡◌, sym}
use mathlib.Core.Bool.{Bool, false, not, true≢false, ◌&&◌, ◌||◌, and_assoc, and-false, or-false}
use mathlib.Core.List.{List}
use lib.Dec.{leb, ltb}
use lib.ListN.{get_or}
use Rattle.machine.specs.declared.Sheet.{Sheet}
use Rattle.machine.specs.declared.State.{State}
use borrow.Author.Tests.{ltb-true, lt-ltb, leb-true, le-leb}
use Rattle.machine.proofs.TestLaws.{test_same}
use Rattle.machine.specs.declared.Client.{Client}
use Rattle.machine.specs.declared.Stored.{Stored}
use Rattle.machine.specs.Places.{all_below}
use Rattle.machine.specs.Sheet.{sensor_of}
use Rattle.machine.specs.State.{no_client, connected, pair_at}
use Rattle.machine.specs.Range.{no_clients, clients_within, stored_ok, stored_ok_at, pair_reported, pair_ok_at}
use Rattle.machine.proofs.PlacesLaws.{get_or-tabulate, below_same}
use Rattle.rules.specs.Found.{sensors_found}
use Rattle.sheet.specs.Fits.{absent_from, stored_fits, reported_fits, pair_fits}

-- a test, or one that never holds
pub or_never : (a b : Bool) → a ≡ (a || (b && false))
or_never a b = rw (and-false b, or-false a)

module _ (sheet : Sheet) (j : ℕ) (h : j < 32) where
  -- the type that is found at a place is that of its sensor
  found_kind : get_or (sensors_found sheet).kinds j 0 ≡ (sensor_of sheet j).kind
  unfolding sensors_found
  found_kind = get_or-tabulate _ 32 j 0 h

  -- so is the number of its options
  found_options : get_or (sensors_found sheet).options j 0 ≡ (sensor_of sheet j).option_count
  unfolding sensors_found
  found_options = get_or-tabulate _ 32 j 0 h

-- no place is below the first
below_none : (c : ℕ) → ltb c 0 ≡ false
below_none c = test_same (ltb c 0) false (λ t. absurd (omega (arith, ltb-true c 0 t))) (λ t. absurd (true≢false (sym t)))

-- a place is below the next just where it is not above
below_next : (c last : ℕ) → ltb c (last + 1) ≡ leb c last
below_next c last = test_same (ltb c (last + 1)) (leb c last) (λ t. le-leb c last (omega (arith, ltb-true c (last + 1) t))) (λ t. lt-ltb c (last + 1) (omega (arith, leb-true c last t)))

-- no client is connected where none is from the first on
pub alone_found : (ks : List Client) → all_below (absent_from 0 ks) 8 ≡ no_clients ks
unfolding no_clients
alone_found ks = below_same (absent_from 0 ks) (λ c. not (get_or ks c no_client).connected) 8 (λ c h. rw (below_none c))

-- none above the last is where none is from the next on
pub within_found : (last : ℕ) (ks : List Client) → all_below (absent_from (last + 1) ks) 8 ≡ clients_within last ks
unfolding clients_within
within_found last ks = below_same (absent_from (last + 1) ks) (λ c. leb c last || not (get_or ks c no_client).connected) 8 (λ c h. rw (below_next c last))

-- the readings fit just where they are in range
pub readings_found : (sheet : Sheet) (clock : ℕ) (rs : List Stored)
    → all_below (stored_fits sheet.count clock (sensors_found sheet) rs) 32 ≡ all_below (stored_ok_at sheet clock rs) 32
unfolding stored_fits stored_ok_at stored_ok
readings_found sheet clock rs = below_same _ _ 32 (λ j h. rw (found_kind sheet j h, found_options sheet j h))

-- the subscriptions fit just where they are in range
pub pairs_found : (s : State)
    → all_below (pair_fits s.sheet.count s.clock (sensors_found s.sheet) s.clients s.subscriptions) 256 ≡ all_below (pair_ok_at s) 256
unfolding pair_fits pair_ok_at reported_fits pair_reported
pairs_found s = below_same _ _ 256 (λ p h.
    rw (
      found_kind s.sheet (p % 32) (omega arith),
      found_options s.sheet (p % 32) (omega arith),
      and_assoc (connected s (p / 32)) (ltb (p % 32) s.sheet.count) (pair_reported s.clock (sensor_of s.sheet (p % 32)) (pair_at s p)),
    ))
