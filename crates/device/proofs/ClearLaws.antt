-- The subscriptions of a client, cleared one place after another.
use Prim.Native.Nat.{ℕ, ◌+◌, ◌*◌, ◌/◌, ◌%◌, ◌<◌}
use native.Mathlib.Omega.{arith}
use mathlib.Core.Path.{◌≡◌, refl, sym, ◌∙◌}
use mathlib.Core.Bool.{Bool, true, false, cond, ◌&&◌}
use mathlib.Core.List.{List}
use lib.Dec.{eqb, ltb}
use lib.ListN.{length, get_or, set}
use lib.Seq.{ext_get_or}
use borrow.Author.Tests.{eqb-true, eqb-false, eq-eqb, ltb-true, lt-ltb, le-ltb}
use Rattle.machine.specs.declared.Subscription.{Subscription}
use Rattle.machine.specs.Places.{tabulate}
use Rattle.machine.specs.State.{no_subscription}
use Rattle.machine.proofs.PlacesLaws.{length-tabulate, get_or-tabulate, tabulate_same}
use Rattle.machine.proofs.StoreLaws.{set_by_place}
use Rattle.machine.proofs.TestLaws.{and_true, and_in, test_same}

-- whether a place is one of the client's first j
abbrev is_in : ℕ → ℕ → ℕ → Bool
is_in client j p = ltb (p % 32) j && eqb (p / 32) client

-- what is left at a place where j of the client's places are cleared
abbrev pub left_at : List Subscription → ℕ → ℕ → ℕ → Subscription
left_at pairs client j p = cond (is_in client j p) no_subscription (get_or pairs p no_subscription)

-- the test, by what it says
is_in_lem : (client j p : ℕ) → p % 32 < j → p / 32 ≡ client → is_in client j p ≡ true
is_in_lem client j p h e = and_in (ltb (p % 32) j) (eqb (p / 32) client) (lt-ltb (p % 32) j h) (eq-eqb (p / 32) client e)

-- and back
in_is : (client j p : ℕ) → is_in client j p ≡ true → (p % 32 < j) × (p / 32 ≡ client)
in_is client j p e =
    let q = and_true (ltb (p % 32) j) (eqb (p / 32) client) e in
    (ltb-true (p % 32) j q.0, eqb-true (p / 32) client q.1)

-- one choice behind another, of the same thing
either : {A : Type 0} (a b c : Bool) (x y : A) → (a ≡ true → c ≡ true) → (a ≡ false → b ≡ c) → cond a x (cond b x y) ≡ cond c x y
either true b c x y h k = rw (h refl)
either false b c x y h k = rw (k refl)

module _ (pairs : List Subscription) (client : ℕ) where
  -- none is cleared at first
  pub cleared_none : length pairs ≡ 256 → pairs ≡ tabulate (left_at pairs client 0) 256
  cleared_none h =
      ext_get_or no_subscription pairs (tabulate (left_at pairs client 0) 256) (h ∙ sym (length-tabulate (left_at pairs client 0) 256))
      (λ i k. sym (get_or-tabulate (left_at pairs client 0) 256 i no_subscription (omega arith) ∙ rw (le-ltb (i % 32) 0 (omega arith))))

  -- one place more
  pub cleared_more : (j : ℕ) → client < 8 → j < 32 → set (tabulate (left_at pairs client j) 256) (client * 32 + j) no_subscription ≡ tabulate (left_at pairs client (j + 1)) 256
  cleared_more j h k =
      set_by_place (tabulate (left_at pairs client j) 256) (client * 32 + j) no_subscription no_subscription (rw length-tabulate (omega arith))
      ∙ rw (length-tabulate (left_at pairs client j) 256) (tabulate_same _ (left_at pairs client (j + 1)) 256 at)
    where
      elsewhere : (p : ℕ) → (p ≡ client * 32 + j → ⊥) → is_in client j p ≡ is_in client (j + 1) p
      elsewhere p n =
          test_same (is_in client j p) (is_in client (j + 1) p)
          (λ e. let q = in_is client j p e in is_in_lem client (j + 1) p (omega arith) q.1)
          (λ e. let q = in_is client (j + 1) p e in is_in_lem client j p (omega (arith, n)) q.1)

      at : (p : ℕ) → p < 256 → cond (eqb p (client * 32 + j)) no_subscription (get_or (tabulate (left_at pairs client j) 256) p no_subscription) ≡ left_at pairs client (j + 1) p
      at p m =
          rw (get_or-tabulate (left_at pairs client j) 256 p no_subscription m)
          (either (eqb p (client * 32 + j)) (is_in client j p) (is_in client (j + 1) p) no_subscription (get_or pairs p no_subscription)
          (λ e. let q = eqb-true p (client * 32 + j) e in is_in_lem client (j + 1) p (omega arith) (omega arith)) (λ e. elsewhere p (eqb-false p (client * 32 + j) e)))

  -- all that are to be cleared
  pub cleared_all : tabulate (left_at pairs client 32) 256 ≡ tabulate (λ p. cond (eqb (p / 32) client) no_subscription (get_or pairs p no_subscription)) 256
  cleared_all = tabulate_same (left_at pairs client 32) _ 256 (λ p m. rw (lt-ltb (p % 32) 32 (omega arith)))
